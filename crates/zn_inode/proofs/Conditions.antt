-- The worse of two conditions.
use Rattle.std.proofs.Common.{◌≡◌, refl}
use Rattle.zn_truth.specs.declared.Cond.{Cond}
use Rattle.zn_truth.specs.declared.Cond.TheVariants.{Good, ReadOnly, Offline}
use Rattle.zn_model.specs.ShownStates.{worse}

pub worse_assoc : (a b c : Cond) → worse (worse a b) c ≡ worse a (worse b c)
worse_assoc Good b c = refl
worse_assoc Offline b c = refl
worse_assoc ReadOnly Good c = refl
worse_assoc ReadOnly Offline c = refl
worse_assoc ReadOnly ReadOnly Good = refl
worse_assoc ReadOnly ReadOnly ReadOnly = refl
worse_assoc ReadOnly ReadOnly Offline = refl

pub worse_good : (a : Cond) → worse a Good ≡ a
worse_good Good = refl
worse_good ReadOnly = refl
worse_good Offline = refl
