-- What words give one after another is what their settings give together.
use Rattle.std.proofs.Common.{◌≡◌, ℕ, List, [], ◌∷◌, ◌++◌, Option, Some, None, refl, sym, ◌∙◌}
use Rattle.std.specs.List.{filter_map}
use Rattle.zn_keys.specs.declared.given.Given.{Given}
use Rattle.zn_keys.specs.declared.settings.Setting.{Setting}
use Rattle.zn_keys.specs.declared.settings.Setting.TheVariants.{Size, ZoneSize, ZoneCapacity, ConvZones, MaxOpen, MaxActive}
use Rattle.zn_keys.specs.Keys.{◌>>=◌, setting_of, settings_of, size_in, zone_size_in, zone_capacity_in, conv_zones_in, max_open_in, max_active_in, at_most_one, given_by, given_in}
use Rattle.zn_keys.specs.Steps.{with_setting}

-- ---- one word after another

-- nothing is given
abbrev pub nothing : Given
nothing = record { size = None; zone_size = None; zone_capacity = None; conv_zones = None; max_open = None; max_active = None }

-- what is given with these words too
abbrev pub given_with : Given → List (List ℕ) → Option Given
given_with given [] = Some given
given_with given (word ∷ words) = setting_of word >>= with_setting given >>= (λ after. given_with after words)

-- ---- one step behind another

none_behind : {A B : Type 0} (o : Option A) (f : A → Option B) → ((x : A) → f x ≡ None) → (o >>= f) ≡ None
none_behind None f none = refl
none_behind (Some x) f none = none x

same_behind : {A B : Type 0} (o : Option A) (f g : A → Option B) → ((x : A) → f x ≡ g x) → (o >>= f) ≡ (o >>= g)
same_behind None f g same = refl
same_behind (Some x) f g same = same x

-- ---- settings behind what is given

-- the value, as a list
abbrev values : Option ℕ → List ℕ
values None = []
values (Some n) = n ∷ []

abbrev six : (size zone_size zone_capacity conv_zones max_open max_active : Option ℕ) → Given
six size zone_size zone_capacity conv_zones max_open max_active =
    record { size = size; zone_size = zone_size; zone_capacity = zone_capacity; conv_zones = conv_zones; max_open = max_open; max_active = max_active }

-- all six, if none of them is refused
abbrev all_six : (size zone_size zone_capacity conv_zones max_open max_active : Option (Option ℕ)) → Option Given
all_six s z c v o a = do
  size ← s
  zone_size ← z
  zone_capacity ← c
  conv_zones ← v
  max_open ← o
  max_active ← a
  Some (six size zone_size zone_capacity conv_zones max_open max_active)

-- the value that was given before and those of settings, if there is at most one
abbrev valued : (Setting → Option ℕ) → Option ℕ → List Setting → Option (Option ℕ)
valued value_in before settings = at_most_one (values before ++ filter_map value_in settings)

-- what settings give behind what is given
abbrev given_behind : Given → List Setting → Option Given
given_behind given settings = all_six
    (valued size_in given.size settings)
    (valued zone_size_in given.zone_size settings)
    (valued zone_capacity_in given.zone_capacity settings)
    (valued conv_zones_in given.conv_zones settings)
    (valued max_open_in given.max_open settings)
    (valued max_active_in given.max_active settings)

alone : (o : Option ℕ) → at_most_one (values o ++ []) ≡ Some o
alone None = refl
alone (Some n) = refl

no_more : (given : Given) → given_behind given [] ≡ Some given
no_more given = rw (alone given.size, alone given.zone_size, alone given.zone_capacity, alone given.conv_zones, alone given.max_open, alone given.max_active) refl

none_second : (s : Option (Option ℕ)) → all_six s None None None None None ≡ None
none_second (Some s) = refl
none_second s = refl

none_third : (s z : Option (Option ℕ)) → all_six s z None None None None ≡ None
none_third (Some s) (Some z) = refl
none_third s z = refl

none_fourth : (s z c : Option (Option ℕ)) → all_six s z c None None None ≡ None
none_fourth (Some s) (Some z) (Some c) = refl
none_fourth s z c = refl

none_fifth : (s z c v : Option (Option ℕ)) → all_six s z c v None None ≡ None
none_fifth (Some s) (Some z) (Some c) (Some v) = refl
none_fifth s z c v = refl

none_sixth : (s z c v o : Option (Option ℕ)) → all_six s z c v o None ≡ None
none_sixth (Some s) (Some z) (Some c) (Some v) (Some o) = refl
none_sixth s z c v o = refl

-- the first setting adds to what is given
abbrev AddsFirst : Given → Setting → List Setting → Type 0
AddsFirst given setting settings = given_behind given (setting ∷ settings) ≡ (with_setting given setting >>= (λ after. given_behind after settings))

size_first : (s z c v o a : Option ℕ) (n : ℕ) (settings : List Setting) → AddsFirst (six s z c v o a) (Size n) settings
size_first None z c v o a n settings = refl
size_first (Some m) z c v o a n settings = refl

zone_size_first : (s z c v o a : Option ℕ) (n : ℕ) (settings : List Setting) → AddsFirst (six s z c v o a) (ZoneSize n) settings
zone_size_first s None c v o a n settings = refl
zone_size_first s (Some m) c v o a n settings = none_second (valued size_in s settings)

zone_capacity_first : (s z c v o a : Option ℕ) (n : ℕ) (settings : List Setting) → AddsFirst (six s z c v o a) (ZoneCapacity n) settings
zone_capacity_first s z None v o a n settings = refl
zone_capacity_first s z (Some m) v o a n settings = none_third (valued size_in s settings) (valued zone_size_in z settings)

conv_zones_first : (s z c v o a : Option ℕ) (n : ℕ) (settings : List Setting) → AddsFirst (six s z c v o a) (ConvZones n) settings
conv_zones_first s z c None o a n settings = refl
conv_zones_first s z c (Some m) o a n settings = none_fourth (valued size_in s settings) (valued zone_size_in z settings) (valued zone_capacity_in c settings)

max_open_first : (s z c v o a : Option ℕ) (n : ℕ) (settings : List Setting) → AddsFirst (six s z c v o a) (MaxOpen n) settings
max_open_first s z c v None a n settings = refl
max_open_first s z c v (Some m) a n settings = none_fifth (valued size_in s settings) (valued zone_size_in z settings) (valued zone_capacity_in c settings) (valued conv_zones_in v settings)

max_active_first : (s z c v o a : Option ℕ) (n : ℕ) (settings : List Setting) → AddsFirst (six s z c v o a) (MaxActive n) settings
max_active_first s z c v o None n settings = refl
max_active_first s z c v o (Some m) n settings = none_sixth (valued size_in s settings) (valued zone_size_in z settings) (valued zone_capacity_in c settings) (valued conv_zones_in v settings) (valued max_open_in o settings)

adds_first : (g : Given) (setting : Setting) (settings : List Setting) → AddsFirst g setting settings
adds_first g (Size n) settings = size_first g.size g.zone_size g.zone_capacity g.conv_zones g.max_open g.max_active n settings
adds_first g (ZoneSize n) settings = zone_size_first g.size g.zone_size g.zone_capacity g.conv_zones g.max_open g.max_active n settings
adds_first g (ZoneCapacity n) settings = zone_capacity_first g.size g.zone_size g.zone_capacity g.conv_zones g.max_open g.max_active n settings
adds_first g (ConvZones n) settings = conv_zones_first g.size g.zone_size g.zone_capacity g.conv_zones g.max_open g.max_active n settings
adds_first g (MaxOpen n) settings = max_open_first g.size g.zone_size g.zone_capacity g.conv_zones g.max_open g.max_active n settings
adds_first g (MaxActive n) settings = max_active_first g.size g.zone_size g.zone_capacity g.conv_zones g.max_open g.max_active n settings

-- ---- words behind what is given

setting_then : (given : Given) (setting : Setting) (settings : Option (List Setting))
    → ((settings >>= (λ rest. Some (setting ∷ rest))) >>= given_behind given) ≡ (with_setting given setting >>= (λ after. settings >>= given_behind after))
setting_then given setting None = sym (none_behind (with_setting given setting) (λ _. None) (λ _. refl))
setting_then given setting (Some settings) = adds_first given setting settings

word_then : (given : Given) (setting : Option Setting) (words : List (List ℕ))
    → ((after : Given) → (settings_of words >>= given_behind after) ≡ given_with after words)
    → ((setting >>= (λ first. settings_of words >>= (λ rest. Some (first ∷ rest)))) >>= given_behind given) ≡ (setting >>= with_setting given >>= (λ after. given_with after words))
word_then given None words same = refl
word_then given (Some setting) words same = setting_then given setting (settings_of words) ∙ same_behind (with_setting given setting) _ _ same

words_behind : (given : Given) (words : List (List ℕ)) → (settings_of words >>= given_behind given) ≡ given_with given words
words_behind given [] = no_more given
words_behind given (word ∷ words) = word_then given (setting_of word) words (λ after. words_behind after words)

-- what is given with all words
pub given_words : (words : List (List ℕ)) → given_with nothing words ≡ given_in words
unfolding given_by
given_words words = sym (words_behind nothing words)
