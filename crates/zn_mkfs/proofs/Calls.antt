-- The commands of a format make its call.
use Rattle.std.proofs.Common.{◌≡◌, ℕ, Bool, true, false, not, ◌&&◌, List, [], ◌∷◌, ◌++◌, Ok, Err, refl, sym, ap, ◌∙◌}
use Rattle.std.specs.Prelude.{if◌then◌else◌, is_ok}
use Rattle.zn_truth.specs.declared.Cond.{Cond}
use Rattle.zn_truth.specs.declared.Cond.TheVariants.{Good, ReadOnly, Offline}
use Rattle.zn_truth.specs.declared.DevError.{DevError}
use Rattle.zn_truth.specs.Truth.{Truth, zone_at, is_good}
use Rattle.zn_truth.specs.Orders.{ReadAt, Reply}
use Rattle.zn_truth.specs.World.{World, Outcome, issue}
use Rattle.zn_truth.specs.OrderLists.{issue_all}
use Rattle.zn_truth.proofs.OrderLists.{done_goes_on, failure_ends}
use Rattle.zn_model.specs.declared.answers.FormatError.TheVariants.{AlreadyFormatted, BadZone0}
use Rattle.zn_model.specs.SuperBlock.{SuperBlock, encoded}
use Rattle.zn_model.specs.Given.{copies_in}
use Rattle.zn_model.specs.Looks.{report_all}
use Rattle.zn_model.specs.Mounting.{super_block_of}
use Rattle.zn_model.specs.Formatting.{FormatAnswer, format_error_of, format_refused, format_ends, format_writes, may_hold_copies, format_read, format_good, format_by, format_reported, format_call, format_orders}
use Rattle.zn_mkfs.specs.Commands.{FormatReply, is_kept, writes, good_commands, format_commands, answer_by}
use Rattle.zn_mkfs.proofs.Answering.{answer_bad, answer_kept, answer_done}

module _ (given : List ℕ) (t : Truth) (s : SuperBlock) (force : Bool) where
  -- what the commands' outcome is told as
  abbrev told_of : Outcome → FormatAnswer
  told_of o = record { reply = answer_by given t force o.reply; world = o.world }

  -- a failure is told, whatever was to come
  failure_told : (o : Outcome) (error : DevError) → o.reply ≡ Err error → format_refused (format_error_of error) o.world ≡ told_of o
  failure_told o error h = ap (λ (r : Reply). let a : FormatAnswer = record { reply = answer_by given t force r; world = o.world } in a) (sym h)

  done_told : (o : Outcome) (reply : FormatReply) → o.reply ≡ Ok tt → answer_by given t force (Ok tt) ≡ reply → record { reply = reply; world = o.world } ≡ told_of o
  done_told o reply h is =
      ap (λ (r : FormatReply). let a : FormatAnswer = record { reply = r; world = o.world } in a) (sym is)
      ∙ ap (λ (r : Reply). let a : FormatAnswer = record { reply = answer_by given t force r; world = o.world } in a) (sym h)

  -- the writes
  ends_told : (o : Outcome) (r : Reply) → o.reply ≡ r → is_good (zone_at t 0).cond ≡ true → is_kept given t force ≡ false → format_ends o r ≡ told_of o
  ends_told o (Ok unit) h good none = done_told o (Ok tt) h (answer_done given t force good none)
  ends_told o (Err error) h good none = failure_told o error h

  writes_told : (w : World) → is_good (zone_at t 0).cond ≡ true → is_kept given t force ≡ false → format_writes w t s ≡ told_of (issue_all w (if is_kept given t force then [] else writes t (encoded s)))
  writes_told w good none =
      ends_told (issue_all w (format_orders t s)) (issue_all w (format_orders t s)).reply refl good none
      ∙ ap (λ (b : Bool). told_of (issue_all w (if b then [] else writes t (encoded s)))) (sym none)

  -- the read
  kept_told : (w : World) → is_good (zone_at t 0).cond ≡ true → is_kept given t force ≡ true → format_refused AlreadyFormatted w ≡ told_of (issue_all w (if is_kept given t force then [] else writes t (encoded s)))
  kept_told w good kept =
      done_told (record { reply = Ok tt; world = w }) (Err AlreadyFormatted) refl (answer_kept given t force good kept)
      ∙ ap (λ (b : Bool). told_of (issue_all w (if b then [] else writes t (encoded s)))) (sym kept)

  by_kept : (w : World) (b : Bool) → is_good (zone_at t 0).cond ≡ true → is_kept given t force ≡ b
      → (if b then format_refused AlreadyFormatted w else format_writes w t s) ≡ told_of (issue_all w (if is_kept given t force then [] else writes t (encoded s)))
  by_kept w true good is = kept_told w good is
  by_kept w false good is = writes_told w good is

  abbrev there : Bool
  there = is_ok (super_block_of (copies_in t given))

  kept_is : (b : Bool) → may_hold_copies t ≡ b → is_kept given t force ≡ ((b && there) && not force)
  kept_is b h = ap (λ (c : Bool). (c && there) && not force) h

  read_told : (w : World) (r : Reply) → is_good (zone_at t 0).cond ≡ true → may_hold_copies t ≡ true → (issue w (ReadAt 0 0 2)).reply ≡ r
      → format_read given (issue w (ReadAt 0 0 2)) r t s force ≡ told_of (issue_all w (ReadAt 0 0 2 ∷ (if is_kept given t force then [] else writes t (encoded s))))
  read_told w (Ok unit) good may h =
      by_kept (issue w (ReadAt 0 0 2)).world (there && not force) good (kept_is true may)
      ∙ ap told_of (sym (done_goes_on w (ReadAt 0 0 2) (if is_kept given t force then [] else writes t (encoded s)) h))
  read_told w (Err error) good may h =
      failure_told (issue w (ReadAt 0 0 2)) error h
      ∙ ap told_of (sym (failure_ends w (ReadAt 0 0 2) (if is_kept given t force then [] else writes t (encoded s)) error h))

  -- a zone 0 that is good
  by_look : (w : World) (b : Bool) → is_good (zone_at t 0).cond ≡ true → may_hold_copies t ≡ b
      → (if b then format_read given (issue w (ReadAt 0 0 2)) (issue w (ReadAt 0 0 2)).reply t s force else format_writes w t s)
      ≡ told_of (issue_all w ((if b then ReadAt 0 0 2 ∷ [] else []) ++ (if is_kept given t force then [] else writes t (encoded s))))
  by_look w true good may = read_told w (issue w (ReadAt 0 0 2)).reply good may refl
  by_look w false good may = writes_told w good (kept_is false may)

  good_told : (w : World) → is_good (zone_at t 0).cond ≡ true → format_good given w t s force ≡ told_of (issue_all w (good_commands given t (encoded s) force))
  good_told w good = by_look w (may_hold_copies t) good refl

  -- any zone 0
  bad_told : (w : World) (c : Cond) → (zone_at t 0).cond ≡ c → is_good c ≡ false → format_refused (BadZone0 c) w ≡ told_of (issue_all w (if is_good c then good_commands given t (encoded s) force else []))
  bad_told w c is bad =
      done_told (record { reply = Ok tt; world = w }) (Err (BadZone0 c)) refl (answer_bad given t force (ap is_good is ∙ bad) ∙ ap (λ (d : Cond). let r : FormatReply = Err (BadZone0 d) in r) is)
      ∙ ap (λ (b : Bool). told_of (issue_all w (if b then good_commands given t (encoded s) force else []))) (sym bad)

  by_told : (w : World) (c : Cond) → (zone_at t 0).cond ≡ c → format_by given c w t s force ≡ told_of (issue_all w (if is_good c then good_commands given t (encoded s) force else []))
  by_told w Good is = good_told w (ap is_good is)
  by_told w ReadOnly is = bad_told w ReadOnly is refl
  by_told w Offline is = bad_told w Offline is refl

  reported_told : (w : World) (r : Reply) → (issue w (report_all t)).reply ≡ r → format_reported given (issue w (report_all t)) r t s force ≡ told_of (issue_all w (format_commands given t (encoded s) force))
  reported_told w (Ok unit) h =
      by_told (issue w (report_all t)).world (zone_at t 0).cond refl
      ∙ ap told_of (sym (done_goes_on w (report_all t) (if is_good (zone_at t 0).cond then good_commands given t (encoded s) force else []) h))
  reported_told w (Err error) h =
      failure_told (issue w (report_all t)) error h
      ∙ ap told_of (sym (failure_ends w (report_all t) (if is_good (zone_at t 0).cond then good_commands given t (encoded s) force else []) error h))

pub call_is : (given : List ℕ) (w : World) (s : SuperBlock) (force : Bool) → format_call given w s force ≡ told_of given w.truth s force (issue_all w (format_commands given w.truth (encoded s) force))
unfolding format_call
call_is given w s force = reported_told given w.truth s force w (issue w (report_all w.truth)).reply refl
