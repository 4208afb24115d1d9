-- What stands in the places of a directory and options, by what `clap` finds.
use Rattle.std.proofs.Common.{◌≡◌, ◌∙◌, ℕ, Bool, true, false, List, Option, Some, None, IsSome, option_map, codes, inl, inr, refl, ap}
use Rattle.clap.specs.Words.{found_of, one_text}
use Rattle.clap.specs.declared.ArgMatches.{ArgMatches}
use Rattle.zn_words.specs.Parts.{Given, word_of}
use Rattle.zn_words.specs.declared.flags.Flag.TheVariants.{Force}
use Rattle.zn_words.specs.Found.{FlagFound}

-- what is given
pub some_given : {X : Type 0} (o : Option X) → IsSome o → (x : X) × (o ≡ Some x)
some_given None there = absurd (cc there)
some_given (Some x) there = (x, refl)

-- a text that is there is lent
pub is_lent : {L T : Type 0} (f : L → T) (lent : Option L) (text : Option T) (word : T) → option_map f lent ≡ text → text ≡ Some word → IsSome lent
is_lent f None text word is there = absurd (cc (is ∙ there))
is_lent f (Some s) text word is there = refl

-- a flag, by what is found of it
pub flag_is : (found : ArgMatches) (set flag : Bool) → FlagFound found set
    → ((one_text (found_of found) (word_of Force) ≡ None) → flag ≡ false)
    → ((one_text (found_of found) (word_of Force) ≡ Some (codes "true")) → flag ≡ true)
    → ((one_text (found_of found) (word_of Force) ≡ Some (codes "false")) → flag ≡ false) → flag ≡ set
flag_is found true flag is none value other = value is
flag_is found false flag (inl is) none value other = none is
flag_is found false flag (inr is) none value other = other is

-- all places together
pub given_is : (given : Given) (dir : List ℕ) (force : Bool) (label uuid options : Option (List ℕ)) → dir ≡ given.dir → force ≡ given.force → label ≡ given.label
    → uuid ≡ given.uuid → options ≡ given.options
    → ◌≡◌ {A = Given} (record { dir = dir; force = force; label = label; uuid = uuid; options = options }) given
given_is given dir force label uuid options is_dir is_force is_label is_uuid is_options =
    let D : List ℕ → Given = λ x. record { dir = x; force = force; label = label; uuid = uuid; options = options } in
    let F : Bool → Given = λ x. record { dir = given.dir; force = x; label = label; uuid = uuid; options = options } in
    let L : Option (List ℕ) → Given = λ x. record { dir = given.dir; force = given.force; label = x; uuid = uuid; options = options } in
    let U : Option (List ℕ) → Given = λ x. record { dir = given.dir; force = given.force; label = given.label; uuid = x; options = options } in
    let O : Option (List ℕ) → Given = λ x. record { dir = given.dir; force = given.force; label = given.label; uuid = given.uuid; options = x } in
    ap D is_dir ∙ ap F is_force ∙ ap L is_label ∙ ap U is_uuid ∙ ap O is_options
