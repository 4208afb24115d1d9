-- What a mount answers, by its commands.
use Rattle.std.proofs.Common.{◌≡◌, ℕ, Bool, true, false, List, [], ◌∷◌, ◌++◌, Result, Ok, Err, refl, sym, ap, ◌∙◌}
use Rattle.std.specs.Prelude.{if◌then◌else◌}
use Rattle.zn_truth.specs.declared.DevError.{DevError}
use Rattle.zn_truth.specs.Truth.{Truth}
use Rattle.zn_truth.specs.Orders.{Reply}
use Rattle.zn_truth.specs.World.{World, Outcome, issue}
use Rattle.zn_truth.specs.OrderLists.{first_failure, issue_all}
use Rattle.zn_truth.specs.Obeying.{IsAnswered}
use Rattle.zn_device.specs.States.{DeviceState}
use Rattle.zn_model.specs.declared.answers.MountError.{MountError}
use Rattle.zn_model.specs.declared.answers.SuperError.{SuperError}
use Rattle.zn_model.specs.declared.answers.Why.{Why}
use Rattle.zn_model.specs.declared.answers.Why.TheVariants.{Zone0NotFull}
use Rattle.zn_model.specs.declared.files.MountOpts.{MountOpts}
use Rattle.zn_model.specs.SuperBlock.{SuperBlock}
use Rattle.zn_model.specs.Volume.{Volume}
use Rattle.zn_model.specs.Given.{copies_in}
use Rattle.zn_model.specs.Looks.{report_all}
use Rattle.zn_model.specs.Mounting.{MountAnswer, is_zone0_unfull, super_block_of, closes, fresh_volume, mount_failed, not_formatted, mount_closed, mount_decoded, mount_read, mount_reported, mount_call}
use Rattle.zn_volume.specs.MountSteps.{as_found, found_in, read_copies, closes_of, mount_orders, result_of, Finds}

-- the answer of a mount whose commands ended so
abbrev ended_by : Reply → World → Result SuperBlock Why → Truth → MountOpts → MountAnswer
ended_by (Err error) w found t opts = mount_failed error w
ended_by (Ok unit) w (Err why) t opts = not_formatted why w
ended_by (Ok unit) w (Ok super_block) t opts = record { reply = Ok (fresh_volume t super_block opts); world = w }

abbrev ended : Outcome → Result SuperBlock Why → Truth → MountOpts → MountAnswer
ended o found t opts = ended_by o.reply o.world found t opts

-- a command that fails ends the mount
fails_first : (error : DevError) (o rest : Outcome) (found : Result SuperBlock Why) (t : Truth) (opts : MountOpts) → o.reply ≡ Err error → mount_failed error o.world ≡ ended (first_failure (Err error) o rest) found t opts
fails_first error o rest found t opts is = sym (ap (λ (r : Reply). ended_by r o.world found t opts) is)

by_closes : (o : Outcome) (r : Reply) (super_block : SuperBlock) (t : Truth) (opts : MountOpts) → o.reply ≡ r → mount_closed o r (fresh_volume t super_block opts) ≡ ended o (Ok super_block) t opts
by_closes o (Ok unit) super_block t opts is = sym (ap (λ (r : Reply). ended_by r o.world (Ok super_block) t opts) is)
by_closes o (Err error) super_block t opts is = sym (ap (λ (r : Reply). ended_by r o.world (Ok super_block) t opts) is)

by_decoded : (d : Result SuperBlock SuperError) (w : World) (t : Truth) (opts : MountOpts) → mount_decoded d w t opts ≡ ended (issue_all w (closes_of (as_found d) t)) (as_found d) t opts
by_decoded (Err error) w t opts = refl
by_decoded (Ok super_block) w t opts = by_closes (issue_all w (closes t)) (issue_all w (closes t)).reply super_block t opts refl

by_read : (given : List ℕ) (o : Outcome) (r : Reply) (t : Truth) (opts : MountOpts) → o.reply ≡ r
    → mount_read given o r t opts ≡ ended (first_failure r o (issue_all o.world (closes_of (as_found (super_block_of (copies_in t given))) t))) (as_found (super_block_of (copies_in t given))) t opts
by_read given o (Ok unit) t opts is = by_decoded (super_block_of (copies_in t given)) o.world t opts
by_read given o (Err error) t opts is =
    fails_first error o (issue_all o.world (closes_of (as_found (super_block_of (copies_in t given))) t)) (as_found (super_block_of (copies_in t given))) t opts is

by_zone0 : (given : List ℕ) (unfull : Bool) (w : World) (t : Truth) (opts : MountOpts)
    → (if unfull then not_formatted Zone0NotFull w else mount_read given (issue w read_copies) (issue w read_copies).reply t opts)
    ≡ ended (issue_all w ((if unfull then [] else read_copies ∷ []) ++ closes_of (if unfull then Err Zone0NotFull else as_found (super_block_of (copies_in t given))) t))
    (if unfull then Err Zone0NotFull else as_found (super_block_of (copies_in t given))) t opts
by_zone0 given true w t opts = refl
by_zone0 given false w t opts = by_read given (issue w read_copies) (issue w read_copies).reply t opts refl

by_report : (given : List ℕ) (o : Outcome) (r : Reply) (t : Truth) (opts : MountOpts) → o.reply ≡ r
    → mount_reported given o r t opts
    ≡ ended (first_failure r o (issue_all o.world ((if is_zone0_unfull t then [] else read_copies ∷ []) ++ closes_of (found_in given t) t))) (found_in given t) t opts
by_report given o (Ok unit) t opts is = by_zone0 given (is_zone0_unfull t) o.world t opts
by_report given o (Err error) t opts is =
    fails_first error o (issue_all o.world ((if is_zone0_unfull t then [] else read_copies ∷ []) ++ closes_of (found_in given t) t)) (found_in given t) t opts is

call_is : (given : List ℕ) (w : World) (opts : MountOpts) → mount_call given w opts ≡ ended (issue_all w (mount_orders given w.truth)) (found_in given w.truth) w.truth opts
unfolding mount_call
call_is given w opts = by_report given (issue w (report_all w.truth)) (issue w (report_all w.truth)).reply w.truth opts refl

-- ---- by the result

-- the reply of a mount with this result
abbrev pub mounted_reply : Result SuperBlock MountError → Truth → MountOpts → Result Volume MountError
mounted_reply (Ok super_block) t opts = Ok (fresh_volume t super_block opts)
mounted_reply (Err why) t opts = Err why

ended_is : (reply : Reply) (w : World) (found : Result SuperBlock Why) (t : Truth) (opts : MountOpts) → ended_by reply w found t opts ≡ record { reply = mounted_reply (result_of reply found) t opts; world = w }
ended_is (Err error) w found t opts = refl
ended_is (Ok unit) w (Err why) t opts = refl
ended_is (Ok unit) w (Ok super_block) t opts = refl

-- where the commands are answered, their result is the mount's
pub answer_is : (result : Result SuperBlock MountError) (old new : DeviceState) (opts : MountOpts) (h : Finds mount_orders result old new) → IsAnswered h.reply
    → mount_call h.given old.world opts ≡ record { reply = mounted_reply result old.world.truth opts; world = new.world }
answer_is result old new opts h answered =
    call_is h.given old.world opts
    ∙ ap (λ (r : Reply). ended_by r (issue_all old.world (mount_orders h.given old.world.truth)).world (found_in h.given old.world.truth) old.world.truth opts) (sym (h.done.obeys.reply answered))
    ∙ ap (λ (w : World). ended_by h.reply w (found_in h.given old.world.truth) old.world.truth opts) (sym (h.done.obeys.world answered))
    ∙ ended_is h.reply new.world (found_in h.given old.world.truth) old.world.truth opts
    ∙ ap (λ (r : Result SuperBlock MountError). let a : MountAnswer = record { reply = mounted_reply r old.world.truth opts; world = new.world } in a) (sym h.is)
