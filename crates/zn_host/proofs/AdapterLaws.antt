-- Laws of what a sink over a writer has taken.
use Rattle.std.proofs.Common.{◌≡◌, ℕ, List, [], ◌++◌, take, Option, Some, None, refl, sym, ◌∙◌, inl, inr, append_assoc, Ok}
use Rattle.std.proofs.lemmas.List.{append-nil}
use Rattle.std.specs.Io.KnownBytes.{Appends}
use Rattle.zn_host.specs.Adapters.{EndsLine, Takes}
use Rattle.zn_host.specs.declared.adapters.Buffering.{Buffering}
use Rattle.zn_host.specs.declared.adapters.Buffering.TheVariants.{Line}
use Rattle.zn_base.specs.Told.{told_and}

-- gathered bytes are behind those of the writer
gathered_appends : (told : Option (List ℕ)) (gathered bytes : List ℕ) → Appends (told_and told gathered) (told_and told (gathered ++ bytes)) bytes
gathered_appends None gathered bytes = tt
gathered_appends (Some xs) gathered bytes = sym (append_assoc xs gathered bytes)

-- and so they are once they are written out
sent_appends : (old new : Option (List ℕ)) (gathered bytes : List ℕ) → Appends old new (gathered ++ bytes) → Appends (told_and old gathered) (told_and new []) bytes
sent_appends None new gathered bytes sent = tt
sent_appends (Some xs) None gathered bytes sent = absurd sent
sent_appends (Some xs) (Some ys) gathered bytes sent = append-nil ys ∙ sent ∙ sym (append_assoc xs gathered bytes)

pub takes_gathered : {E : Type 0} (by : Buffering) (told : Option (List ℕ)) (gathered piece : List ℕ) (n : ℕ) → ((by ≡ Line) × EndsLine (take n piece) → ⊥) → Takes {E = E} by told told gathered (gathered ++ take n piece) (Ok n) piece
takes_gathered by told gathered piece n open_line = record {
  bytes = gathered_appends told gathered (take n piece);
  held = inr refl;
  sent = λ is ends. absurd (open_line (is, ends));
  lost = tt;
}

pub takes_sent : {E : Type 0} (by : Buffering) (old new : Option (List ℕ)) (gathered piece : List ℕ) (n : ℕ) → Appends old new (gathered ++ take n piece) → Takes {E = E} by old new gathered [] (Ok n) piece
takes_sent by old new gathered piece n sent = record {
  bytes = sent_appends old new gathered (take n piece) sent;
  held = inl refl;
  sent = λ _ _. refl;
  lost = tt;
}
