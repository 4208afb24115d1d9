use Rattle.std.proofs.Common.{◌≡◌, sym, ap, subst, map, List}
use Rattle.std.specs.FinMap.{empty}
use Rattle.std.proofs.lemmas.Result.{IfOk-weaker}
use Rattle.zn_stand.specs.Directory.{contents, rested, IsImageOf, IsSoundDirectory}
use Rattle.zn_files.specs.declared.record.Change.{Change}
use Rattle.zn_files.specs.declared.record.Recorded.{Recorded}
use Rattle.zn_files.specs.Images.{image_by}
use Rattle.zn_files.specs.Memory.{mem_state}
use Rattle.zn_files.specs.MemStates.{first, directory_after}
use Rattle.zn_files.specs.Record.{call_of}
use Rattle.zn_files.specs.Replays.{replayed}
use Rattle.zn_files.specs.Traces.{TracesAll, MayTraceAll}
use Rattle.zn_files.proofs.ReplayLaws.{call_in}
use Rattle.zn_files.proofs.Until.{among, nothing_traced, changes_among, may_begin, may_go_on, sound_after, first_is_sound}
use Rattle.zn_files.proofs.Leaving.{left_stands}
use Rattle.zn_files.proofs.memory.MemFiles.image.Goals as goal

-- the calls at first are done
began_traced : (c : goal.After-deref-2) → TracesAll c.trace_all.new.files (replayed empty (map call_of c.args.self.now.given.items))
began_traced c = subst (λ (given : List Change). TracesAll c.trace_all.new.files (replayed empty (map call_of given))) c.deref.ensures.value (c.in_ok-trace_all.ensures empty (nothing_traced c.new-files.result c.new-files.ensures.empty))

pub trace_all-requires : goal.trace_all-requires
trace_all-requires c = subst (λ (given : List Change). MayTraceAll c.new-files.result (map call_of given)) (sym c.deref.ensures.value)
    (may_begin c.args.self.now.given.items c.args.self.now.made.items c.args.self.now.files c.args.self.now.sound c.new-files.result c.new-files.ensures.empty)

pub trace_until-requires : goal.trace_until-requires
trace_until-requires c = subst (λ (made : List Recorded). MayTraceAll c.trace_all.new.files (map call_in made)) (sym c.deref-2.ensures.value)
    (may_go_on c.args.self.now.given.items c.args.self.now.made.items c.args.self.now.files c.args.self.now.sound c.trace_all.new.files (began_traced c))

-- the calls at first, and those among so many
after_is : (c : goal.After-image_of) → directory_after (mem_state c.args.self.now) c.args.calls ≡ replayed (first (mem_state c.args.self.now)) (map call_in (among c.args.calls c.args.self.now.made.items))
after_is c = ap (replayed (first (mem_state c.args.self.now))) (changes_among c.args.calls c.args.self.now.made.items)

all_traced : (c : goal.After-image_of) → TracesAll c.trace_until.new.files (directory_after (mem_state c.args.self.now) c.args.calls)
all_traced c = subst (TracesAll c.trace_until.new.files) (sym (after_is c))
    (subst (λ (made : List Recorded). TracesAll c.trace_until.new.files (replayed (first (mem_state c.args.self.now)) (map call_in (among c.args.calls made)))) c.deref-2.ensures.value
    (c.in_ok-trace_until.ensures (first (mem_state c.args.self.now))
    (subst (λ (given : List Change). TracesAll c.trace_all.new.files (replayed empty (map call_of given))) c.deref.ensures.value (c.in_ok-trace_all.ensures empty (nothing_traced c.new-files.result c.new-files.ensures.empty)))))

pub returns-clause-first : goal.returns-clause-first
returns-clause-first c = IfOk-weaker c.image_of.result _ (λ image. first (mem_state image) ≡ rested (image_by c.args.choice (directory_after (mem_state c.args.self.now) c.args.calls)))
    (λ image made. made (directory_after (mem_state c.args.self.now) c.args.calls) (all_traced c)) c.image_of.ensures.first

pub returns-clause-stop : goal.returns-clause-stop
returns-clause-stop c = IfOk-weaker c.image_of.result _ (λ image. IsImageOf (directory_after (mem_state c.args.self.now) c.args.calls) (contents (first (mem_state image))))
    (λ image made. left_stands c.args.choice (directory_after (mem_state c.args.self.now) c.args.calls) (first (mem_state image))
    (subst IsSoundDirectory (sym (after_is c)) (sound_after c.args.self.now.given.items c.args.self.now.made.items c.args.self.now.files c.args.self.now.sound c.args.calls))
    (first_is_sound image.given.items image.made.items image.files image.sound)
    (made (directory_after (mem_state c.args.self.now) c.args.calls) (all_traced c)))
    c.image_of.ensures.first
