-- What the commands of a mount find.
use Rattle.std.proofs.Common.{◌≡◌, ◌⊎◌, ℕ, ◌*◌, ◌<◌, ◌≤◌, Bool, true, false, List, [], ◌∷◌, ◌++◌, length, take, All, Result, Ok, Err, refl, sym, ap, ◌∙◌, subst, inl, inr}
use Rattle.std.specs.Prelude.{if◌then◌else◌}
use Rattle.std.proofs.lemmas.List.{append-nil}
use Rattle.std.proofs.lemmas.List.Elements.{All-nil}
use Rattle.zn_truth.specs.declared.DevError.{DevError}
use Rattle.zn_truth.specs.Truth.{Truth, bytes_at}
use Rattle.zn_truth.specs.Orders.{Order, Reply}
use Rattle.zn_truth.specs.World.{World}
use Rattle.zn_truth.proofs.OrderLists.{report_leaves}
use Rattle.zn_device.specs.States.{DeviceState, Commanded, Ordered}
use Rattle.zn_device.proofs.Ordered.{ordered_one, ordered_failed, ordered_then, ordered_append, ordered_failure}
use Rattle.zn_model.specs.declared.answers.MountError.{MountError}
use Rattle.zn_model.specs.declared.answers.MountError.TheVariants.{NotFormatted}
use Rattle.zn_model.specs.declared.answers.SuperError.{SuperError}
use Rattle.zn_model.specs.declared.answers.Why.{Why}
use Rattle.zn_model.specs.declared.answers.Why.TheVariants.{Zone0NotFull}
use Rattle.zn_model.specs.SuperBlock.{SuperBlock}
use Rattle.zn_model.specs.Given.{copies_in}
use Rattle.zn_model.specs.Looks.{report_all}
use Rattle.zn_model.specs.Mounting.{mount_error_of, why_of, is_zone0_unfull, super_block_of, closes}
use Rattle.zn_volume.specs.MountSteps.{as_found, found_in, read_copies, looks, closes_of, mount_orders, result_of, Finds}
use Rattle.zn_volume.proofs.Giving.{read_gives}

-- ---- the read

pub read_fails : (error : DevError) (old new : DeviceState) → Commanded read_copies (Err error) old new → Finds (λ given t. read_copies ∷ []) (Err (mount_error_of error)) old new
read_fails error old new h = record {
  given = [];
  bytes = All-nil (λ (byte : ℕ). byte < 256);
  reply = Err error;
  done = ordered_one read_copies (Err error) old new h;
  is = refl;
}

-- what the decoder made of what was read
found_is : (t : Truth) (given : List ℕ) (result : Result SuperBlock SuperError) → is_zone0_unfull t ≡ false → 2 * 4096 ≤ length given → (t.told ≡ true → take (2 * 4096) given ≡ bytes_at t 0 0 2)
    → result ≡ super_block_of (take (2 * 4096) given) → found_in given t ≡ as_found result
found_is t given result full long read is =
    ap (λ (b : Bool). if b then Err Zone0NotFull else as_found (super_block_of (copies_in t given))) full
    ∙ ap (λ (copies : List ℕ). as_found (super_block_of copies)) (sym (read_gives t (2 * 4096) (bytes_at t 0 0 2) given long read))
    ∙ ap as_found (sym is)

read_finds : (given : List ℕ) (result : Result SuperBlock SuperError) (old new : DeviceState) → Commanded read_copies (Ok tt) old new → is_zone0_unfull old.world.truth ≡ false → 2 * 4096 ≤ length given
    → All (λ (byte : ℕ). byte < 256) given → (old.world.truth.told ≡ true → take (2 * 4096) given ≡ bytes_at old.world.truth 0 0 2) → result ≡ super_block_of (take (2 * 4096) given)
    → Finds (λ given t. read_copies ∷ []) (result_of (Ok tt) (as_found result)) old new
read_finds given result old new h full long bytes read is = record {
  given = given;
  bytes = bytes;
  reply = Ok tt;
  done = ordered_one read_copies (Ok tt) old new h;
  is = ap (result_of (Ok tt)) (sym (found_is old.world.truth given result full long read is));
}

pub super_block_read : (given : List ℕ) (super_block : SuperBlock) (old new : DeviceState) → Commanded read_copies (Ok tt) old new → is_zone0_unfull old.world.truth ≡ false → 2 * 4096 ≤ length given
    → All (λ (byte : ℕ). byte < 256) given → (old.world.truth.told ≡ true → take (2 * 4096) given ≡ bytes_at old.world.truth 0 0 2) → Ok super_block ≡ super_block_of (take (2 * 4096) given)
    → Finds (λ given t. read_copies ∷ []) (Ok super_block) old new
super_block_read given super_block old new h full long bytes read is = read_finds given (Ok super_block) old new h full long bytes read is

pub no_super_block_read : (given : List ℕ) (error : SuperError) (old new : DeviceState) → Commanded read_copies (Ok tt) old new → is_zone0_unfull old.world.truth ≡ false → 2 * 4096 ≤ length given
    → All (λ (byte : ℕ). byte < 256) given → (old.world.truth.told ≡ true → take (2 * 4096) given ≡ bytes_at old.world.truth 0 0 2) → Err error ≡ super_block_of (take (2 * 4096) given)
    → Finds (λ given t. read_copies ∷ []) (Err (NotFormatted (why_of error))) old new
no_super_block_read given error old new h full long bytes read is = read_finds given (Err error) old new h full long bytes read is

-- ---- the report before it

pub report_fails : (error : DevError) (old new : DeviceState) → Commanded (report_all old.world.truth) (Err error) old new → Finds (λ given t. looks t) (Err (mount_error_of error)) old new
report_fails error old new h = record {
  given = [];
  bytes = All-nil (λ (byte : ℕ). byte < 256);
  reply = Err error;
  done = ordered_failed (report_all old.world.truth) _ error old new h;
  is = refl;
}

pub zone0_unfull : (old new : DeviceState) → Commanded (report_all old.world.truth) (Ok tt) old new → is_zone0_unfull old.world.truth ≡ true → Finds (λ given t. looks t) (Err (NotFormatted Zone0NotFull)) old new
zone0_unfull old new h unfull = record {
  given = [];
  bytes = All-nil (λ (byte : ℕ). byte < 256);
  reply = Ok tt;
  done = subst (λ (b : Bool). Ordered (report_all old.world.truth ∷ (if b then [] else read_copies ∷ [])) (Ok tt) old new) (sym unfull) (ordered_one (report_all old.world.truth) (Ok tt) old new h);
  is = sym (ap (λ (b : Bool). result_of (Ok tt) (if b then Err Zone0NotFull else as_found (super_block_of (copies_in old.world.truth [])))) unfull);
}

-- a report that is done leaves what the device holds
pub reported_truth : (old new : DeviceState) → Commanded (report_all old.world.truth) (Ok tt) old new → new.world.truth ≡ old.world.truth
reported_truth old new h = ap (λ (w : World). w.truth) (h.obeys.world refl) ∙ report_leaves old.world 0 _ (sym (h.obeys.reply refl))

pub then_read : (result : Result SuperBlock MountError) (old mid new : DeviceState) → Commanded (report_all old.world.truth) (Ok tt) old mid → is_zone0_unfull old.world.truth ≡ false
    → Finds (λ given t. read_copies ∷ []) result mid new → Finds (λ given t. looks t) result old new
then_read result old mid new h full rest = record {
  given = rest.given;
  bytes = rest.bytes;
  reply = rest.reply;
  done = subst (λ (b : Bool). Ordered (report_all old.world.truth ∷ (if b then [] else read_copies ∷ [])) rest.reply old new) (sym full)
      (ordered_then (report_all old.world.truth) (read_copies ∷ []) rest.reply old mid new h rest.done);
  is = rest.is ∙ ap (λ (t : Truth). result_of rest.reply (found_in rest.given t)) (reported_truth old mid h);
}

-- ---- the closes behind them

-- a result that is a failure: of a command, or since the device isn't formatted
pub record CommandFailed (reply : Reply) (why : MountError) : Type 0 where
  pub error : DevError
  pub is : reply ≡ Err error
  pub told : why ≡ mount_error_of error

pub record Unformatted (reply : Reply) (found : Result SuperBlock Why) (why : MountError) : Type 0 where
  pub cause : Why
  pub done : reply ≡ Ok tt
  pub is : found ≡ Err cause
  pub told : why ≡ NotFormatted cause

err_same : (a b : MountError) → (let r : Result SuperBlock MountError = Err a in r) ≡ Err b → a ≡ b
err_same a b h = cc

pub failure_cases : (reply : Reply) (found : Result SuperBlock Why) (why : MountError) → Err why ≡ result_of reply found → CommandFailed reply why ⊎ Unformatted reply found why
failure_cases (Err error) found why h = inl (record { error = error; is = refl; told = err_same why (mount_error_of error) h })
failure_cases (Ok unit) (Err cause) why h = inr (record { cause = cause; done = refl; is = refl; told = err_same why (NotFormatted cause) h })
failure_cases (Ok unit) (Ok super_block) why h = absurd (cc)

-- a result that is a super block
pub record SuperBlockFound (reply : Reply) (found : Result SuperBlock Why) (super_block : SuperBlock) : Type 0 where
  pub done : reply ≡ Ok tt
  pub is : found ≡ Ok super_block

pub found_cases : (reply : Reply) (found : Result SuperBlock Why) (super_block : SuperBlock) → Ok super_block ≡ result_of reply found → SuperBlockFound reply found super_block
found_cases (Err error) found super_block h = absurd (cc)
found_cases (Ok unit) (Err cause) super_block h = absurd (cc)
found_cases (Ok unit) (Ok other) super_block h = record { done = refl; is = cc }

-- without a super block nothing is closed
pub no_closes : (why : MountError) (old new : DeviceState) → Finds (λ given t. looks t) (Err why) old new → Finds mount_orders (Err why) old new
no_closes why old new h =
    record {
      given = h.given;
      bytes = h.bytes;
      reply = h.reply;
      done = elim (failure_cases h.reply (found_in h.given old.world.truth) why h.is) [
        | inl failed ↦ subst (λ (r : Reply). Ordered (mount_orders h.given old.world.truth) r old new) (sym failed.is)
            (ordered_failure (looks old.world.truth) (closes_of (found_in h.given old.world.truth) old.world.truth) failed.error old new (subst (λ (r : Reply). Ordered (looks old.world.truth) r old new) failed.is h.done))
        | inr unformatted ↦ subst (λ (found : Result SuperBlock Why). Ordered (looks old.world.truth ++ closes_of found old.world.truth) h.reply old new) (sym unformatted.is)
            (subst (λ (orders : List Order). Ordered orders h.reply old new) (sym (append-nil (looks old.world.truth))) h.done)
      ];
      is = h.is;
    }

-- the closes follow a super block
closes_follow : (super_block : SuperBlock) (reply : Reply) (old mid new : DeviceState) → Finds (λ given t. looks t) (Ok super_block) old mid → Ordered (closes old.world.truth) reply mid new
    → Finds mount_orders (result_of reply (Ok super_block)) old new
closes_follow super_block reply old mid new h rest =
    let found = found_cases h.reply (found_in h.given old.world.truth) super_block h.is in
    let first = subst (λ (r : Reply). Ordered (looks old.world.truth) r old mid) found.done h.done in
    record {
      given = h.given;
      bytes = h.bytes;
      reply = reply;
      done = subst (λ (found : Result SuperBlock Why). Ordered (looks old.world.truth ++ closes_of found old.world.truth) reply old new) (sym found.is)
          (ordered_append (looks old.world.truth) (closes old.world.truth) reply old mid new first rest);
      is = sym (ap (result_of reply) found.is);
    }

pub all_closed : (super_block : SuperBlock) (old mid new : DeviceState) → Finds (λ given t. looks t) (Ok super_block) old mid → Ordered (closes old.world.truth) (Ok tt) mid new
    → Finds mount_orders (Ok super_block) old new
all_closed super_block old mid new h rest = closes_follow super_block (Ok tt) old mid new h rest

pub close_fails : (super_block : SuperBlock) (error : DevError) (old mid new : DeviceState) → Finds (λ given t. looks t) (Ok super_block) old mid → Ordered (closes old.world.truth) (Err error) mid new
    → Finds mount_orders (Err (mount_error_of error)) old new
close_fails super_block error old mid new h rest = closes_follow super_block (Err error) old mid new h rest
