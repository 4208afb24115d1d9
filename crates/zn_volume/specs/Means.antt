-- What the answers of a volume's calls mean.
use Rattle.std.specs.Prelude.{ℕ, Bool, true, false, List, take, Result, Ok, Err}
use Rattle.zn_model.specs.declared.answers.Refusal.{Refusal}
use Rattle.zn_model.specs.declared.answers.Refusal.TheVariants.{Broken, Memory}
use Rattle.zn_model.specs.declared.handles.Handle.{Handle}

-- a refusal that says that the device is broken, or that memory is wanting
abbrev pub is_spoiling : Refusal → Bool
is_spoiling Broken = true
is_spoiling Memory = true
is_spoiling _ = false

-- the result is such a refusal
abbrev pub spoils : {X : Type 0} → Result X Refusal → Bool
spoils (Ok value) = false
spoils (Err refusal) = is_spoiling refusal

-- the result without its value
abbrev pub without_value : {X : Type 0} → Result X Refusal → Result (Unit {0}) Refusal
without_value (Ok value) = Ok tt
without_value (Err refusal) = Err refusal

-- the bytes that a read put into a buffer
abbrev pub as_read : Result ℕ Refusal → List ℕ → Result (List ℕ) Refusal
as_read (Ok n) out = Ok (take n out)
as_read (Err refusal) out = Err refusal

-- the key of the handle that an open made
abbrev pub key_in : Result Handle Refusal → ℕ
key_in (Ok h) = h.key
key_in (Err refusal) = 0
