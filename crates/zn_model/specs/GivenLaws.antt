-- What was given to a read counts in the bytes of its reply alone. (own)
use Rattle.std.specs.Prelude.{◌≡◌, ℕ, List, length, Result, Ok, Err}
use Rattle.zn_model.specs.declared.answers.Refusal.{Refusal}
use Rattle.zn_model.specs.declared.handles.Handle.{Handle}
use Rattle.zn_model.specs.Volume.{Mounted}
use Rattle.zn_model.specs.Reading.{read_call}

-- a reply of bytes, by how many they are
abbrev pub count_in : Result (List ℕ) Refusal → Result ℕ Refusal
count_in (Ok bytes) = Ok (length bytes)
count_in (Err refusal) = Err refusal

-- Over any device: whatever was given, a read is refused alike, leaves the same, and gives as many bytes.
pub record ReadsAreAlike : Type 0 where
  pub mounted : (given other : List ℕ) (m : Mounted) (h : Handle) (offset len : ℕ) → (read_call given m h offset len).mounted ≡ (read_call other m h offset len).mounted
  pub count : (given other : List ℕ) (m : Mounted) (h : Handle) (offset len : ℕ) → count_in (read_call given m h offset len).reply ≡ count_in (read_call other m h offset len).reply
