-- The end of a handle, and what follows it.
use Rattle.std.proofs.Common.{◌≡◌, ℕ, Bool, true, false, cond, List, [], ◌∷◌, Option, Some, None, Result, Ok, Err, refl, sym, ap, ◌∙◌, subst}
use Rattle.std.specs.Prelude.{find, option_map, if◌then◌else◌, IfErr}
use Rattle.std.proofs.lemmas.Bool.{and_parts, eqb-true}
use Rattle.std.proofs.lemmas.Option.{same_Some, none-some}
use Rattle.zn_model.specs.declared.handles.Handle.{Handle}
use Rattle.zn_model.specs.declared.answers.Refusal.{Refusal}
use Rattle.zn_model.specs.declared.answers.Refusal.TheVariants.{Busy, PowerLost}
use Rattle.zn_model.specs.CallAnswers.{Answer, refused, busy_refusal}
use Rattle.zn_model.specs.OpenClose.{close_call, close_by, close_now, ended}
use Rattle.zn_model.specs.Volume.{Mounted, Live, Handles, live_at, is_same_handle, is_queued_through, without_live}
use Rattle.zn_handle.specs.declared.handles.Open.{Open}
use Rattle.zn_handle.specs.HandleState.{open_of}
use Rattle.zn_volume.specs.VolumeState.{VolumeState, mounted_in}
use Rattle.zn_volume.specs.Refusals.{is_failure, IsRefusedBy, live_first, close_refusal}
use Rattle.zn_volume.specs.Closing.{Closes, held_closed, zone_closed}

-- what is found passes
find_passes : {X : Type 0} (p : X → Bool) (xs : List X) (x : X) → find p xs ≡ Some x → p x ≡ true
find_passes p [] x h = absurd (none-some x h)
find_passes {X = X} p (y ∷ ys) x h = elim (p y) as (λ (b : Bool). p y ≡ b → cond b (Some y) (find p ys) ≡ Some x → p x ≡ true) [
  | true ↦ λ e found. subst (λ (z : X). p z ≡ true) (same_Some y x found) e
  | false ↦ λ e found. find_passes p ys x found
] refl h

same_handle : (a b : Handle) → a.key ≡ b.key → a.generation ≡ b.generation → a ≡ b
same_handle a b key generation =
    ap (λ (k : ℕ). let h : Handle = record { key = k; generation = a.generation } in h) key ∙ ap (λ (g : ℕ). let h : Handle = record { key = b.key; generation = g } in h) generation

-- the live handle that is found is the very one
pub live_is : (handles : Handles) (h : Handle) (live : Live) → live_at handles h ≡ Some live → live.handle ≡ h
live_is handles h live found =
    let parts = and_parts _ _ (find_passes (λ (live : Live). is_same_handle live.handle h) handles.live live found) in
    same_handle live.handle h (eqb-true live.handle.key h.key parts.0) (eqb-true live.handle.generation h.generation parts.1)

-- a close of a handle through which no request waits, by the table without the handle
close_is : (m : Mounted) (live : Live) → is_queued_through m.volume.queue live.handle ≡ false → close_by (Some live) m ≡ zone_closed (open_of live) (ended m live.handle)
unfolding close_now held_closed
close_is m live none = ap (λ (busy : Bool). cond busy (refused Busy m) (close_now m live)) none

from_live : (m : Mounted) (h : Handle) (on : Open) (result : Result (Unit {0}) Refusal) (new : Mounted) (o : Option Live)
    → live_at m.volume.handles h ≡ o → option_map open_of o ≡ Some on → is_queued_through m.volume.queue h ≡ false → Closes on result (ended m h) new
    → (result ≡ (close_by o m).reply) × (new ≡ (close_by o m).mounted)
from_live m h on result new None found none queue closes = absurd (none-some on none)
from_live m h on result new (Some live) found some queue closes =
    let same : live.handle ≡ h = live_is m.volume.handles h live found in
    let opened : open_of live ≡ on = same_Some (open_of live) on some in
    let all : close_by (Some live) m ≡ zone_closed on (ended m h) =
    close_is m live (ap (λ (g : Handle). is_queued_through m.volume.queue g) same ∙ queue) ∙ ap (λ (g : Handle). zone_closed (open_of live) (ended m g)) same ∙ ap (λ (o : Open). zone_closed o (ended m h)) opened in
    (closes.reply ∙ ap (λ (a : Answer (Unit {0})). a.reply) (sym all), closes.mounted ∙ ap (λ (a : Answer (Unit {0})). a.mounted) (sym all))

pub record IsClosed (m : Mounted) (h : Handle) (result : Result (Unit {0}) Refusal) (new : Mounted) : Type 0 where
  pub reply : result ≡ (close_call m h).reply
  pub mounted : new ≡ (close_call m h).mounted

closed_by : (m : Mounted) (h : Handle) (result : Result (Unit {0}) Refusal) (new : Mounted) (powered : Bool)
    → m.world.powered ≡ powered → powered ≡ true → (result ≡ (close_by (live_at m.volume.handles h) m).reply) × (new ≡ (close_by (live_at m.volume.handles h) m).mounted) → IsClosed m h result new
unfolding close_call
closed_by m h result new powered is on_now both =
    let call : close_call m h ≡ close_by (live_at m.volume.handles h) m = ap (λ (b : Bool). cond b (close_by (live_at m.volume.handles h) m) (refused PowerLost m)) (is ∙ on_now) in
    record {
      reply = both.0 ∙ ap (λ (a : Answer (Unit {0})). a.reply) (sym call);
      mounted = both.1 ∙ ap (λ (a : Answer (Unit {0})). a.mounted) (sym call);
    }

-- what a handle's end and the zone's close make is what the call does
pub closed : (v now : VolumeState) (h : Handle) (on : Open) (after : Handles) (result : Result (Unit {0}) Refusal) (new : Mounted) (powered : Bool) → v ≡ now
    → v.device.world.powered ≡ powered → powered ≡ true → option_map open_of (live_at v.volume.handles h) ≡ Some on → is_queued_through v.volume.queue h ≡ false
    → after ≡ without_live v.volume.handles h → Closes on result (record { world = v.device.world; volume = record v.volume { handles = after } }) new → IsClosed (mounted_in now) h result new
closed v now h on after result new powered same is on_now some queue rest closes =
    let ends = subst (λ (handles : Handles). Closes on result (record { world = v.device.world; volume = record v.volume { handles = handles } }) new) rest closes in
    let both = from_live (mounted_in v) h on result new (live_at v.volume.handles h) refl some queue ends in
    subst (λ (s : VolumeState). IsClosed (mounted_in s) h result new) same (closed_by (mounted_in v) h result new powered is on_now both)

-- ---- a request that waits

-- through the very handle that is to end: the close is refused
pub busy_closed : (v now : VolumeState) (h : Handle) (on : Open) (powered : Bool) → v ≡ now → v.device.world.powered ≡ powered → powered ≡ true → option_map open_of (live_at v.volume.handles h) ≡ Some on → is_queued_through v.volume.queue h ≡ true
    → IsClosed (mounted_in now) h (Err Busy) (mounted_in now)
busy_closed v now h on powered same is on_now some busy =
    subst (λ (s : VolumeState). IsClosed (mounted_in s) h (Err Busy) (mounted_in s)) same
    (closed_by (mounted_in v) h (Err Busy) (mounted_in v) powered is on_now (by_live (live_at v.volume.handles h) refl some))
  where
    by_live : (o : Option Live) → live_at v.volume.handles h ≡ o → option_map open_of o ≡ Some on → (Err Busy ≡ (close_by o (mounted_in v)).reply) × (mounted_in v ≡ (close_by o (mounted_in v)).mounted)
    by_live None found none = absurd (none-some on none)
    by_live (Some live) found some =
        let there : is_queued_through v.volume.queue live.handle ≡ true = ap (λ (g : Handle). is_queued_through v.volume.queue g) (live_is v.volume.handles h live found) ∙ busy in
        let answer : close_by (Some live) (mounted_in v) ≡ refused Busy (mounted_in v) = ap (λ (b : Bool). cond b (refused Busy (mounted_in v)) (close_now (mounted_in v) live)) there in
        (ap (λ (a : Answer (Unit {0})). a.reply) (sym answer), ap (λ (a : Answer (Unit {0})). a.mounted) (sym answer))

-- by the checks alone, or by what the device answered
pub close_refused : (m : Mounted) (h : Handle) (on : Open) (busy : Bool) (result : Result (Unit {0}) Refusal) → m.world.powered ≡ true → Some on ≡ option_map open_of (live_at m.volume.handles h) → is_queued_through m.volume.queue h ≡ busy
    → IsRefusedBy (busy_refusal busy) result → IsRefusedBy (close_refusal m h) result
close_refused m h on busy result powered is waits by =
    subst (λ (b : Bool). IsRefusedBy (if b then live_first (live_at m.volume.handles h) (λ live. busy_refusal (is_queued_through m.volume.queue live.handle)) else Some PowerLost) result) (sym powered) (by_live (live_at m.volume.handles h) refl is)
  where
    by_live : (o : Option Live) → live_at m.volume.handles h ≡ o → Some on ≡ option_map open_of o → IsRefusedBy (live_first o (λ live. busy_refusal (is_queued_through m.volume.queue live.handle))) result
    by_live None found none = absurd (none-some on (sym none))
    by_live (Some live) found some =
        let there : is_queued_through m.volume.queue live.handle ≡ busy = ap (λ (g : Handle). is_queued_through m.volume.queue g) (live_is m.volume.handles h live found) ∙ waits in
        subst (λ (b : Bool). IsRefusedBy (busy_refusal b) result) (sym there) by

pub busy_refused : IsRefusedBy {X = Unit {0}} (busy_refusal true) (Err Busy)
busy_refused = record { refused = λ refusal is. ap (λ (r : Refusal). let e : Result (Unit {0}) Refusal = Err r in e) (same_Some Busy refusal is); passed = λ is. absurd (cc) }

pub unbusy_refused : (result : Result (Unit {0}) Refusal) → IfErr result (λ refusal. is_failure refusal ≡ true) → IsRefusedBy (busy_refusal false) result
unbusy_refused result fails = record { refused = λ refusal is. absurd (cc); passed = λ is refusal told. fails_so result fails refusal told }
  where
    fails_so : (r : Result (Unit {0}) Refusal) → IfErr r (λ refusal. is_failure refusal ≡ true) → (refusal : Refusal) → r ≡ Err refusal → is_failure refusal ≡ true
    fails_so (Ok unit) fails refusal told = absurd (cc)
    fails_so (Err other) fails refusal told = let same : other ≡ refusal = cc in subst (λ (e : Refusal). is_failure e ≡ true) same fails
