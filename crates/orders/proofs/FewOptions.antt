-- No option is named twice, so no more pairs are read than there are options.
use Rattle.std.proofs.Common.{◌≡◌, ◌∙◌, ℕ, zero, suc, ◌+◌, ◌*◌, ◌<◌, ◌≤◌, ◌||◌, Bool, true, false, cond, List, [], ◌∷◌, length, inl, inr, refl, sym, ap}
use Rattle.std.proofs.Common.{subst, arith}
use Rattle.std.specs.Prelude.{Option, Some, None, find, is_some, count_by}
use Rattle.std.specs.List.{range_with_len}
use Rattle.std.specs.Str.{bytes_eq}
use Rattle.std.proofs.lemmas.List.Sums.{count_by-le-length}
use Rattle.std.proofs.lemmas.Option.{cond_some}
use Rattle.lemmas.proofs.Exported.{IsAmong, one_if, count-cons, find_some}
use Rattle.orders.specs.declared.options.Command.{Command}
use Rattle.orders.specs.declared.options.Setting.{Setting}
use Rattle.orders.specs.Options.{settings, option_name, option_named, setting_named, if_taken, command_takes}
use Rattle.orders.specs.Words.{word_at, names, naming, is_bad_name}
use Rattle.orders.specs.Given.{AreRead}
use Rattle.orders.proofs.Places.{name_by, option_by}

-- one of the first n pairs names the option
abbrev is_named : List (List ℕ) → ℕ → Setting → Bool
is_named words n setting = is_some (naming words setting n)

-- whether a number of a range that is longer by one passes a test
found_more : (test : ℕ → Bool) (a n : ℕ) → is_some (find test (range_with_len a (suc n))) ≡ (is_some (find test (range_with_len a n)) || test (a + n))
found_more test a zero = let same : a + 0 ≡ a = omega arith in rw same (by (test a))
  where
    by : (b : Bool) → is_some (cond b (Some a) None) ≡ (false || b)
    by true = refl
    by false = refl
found_more test a (suc n) = by (test a) (let same : a + 1 + n ≡ a + suc n = omega arith in rw (← same) (found_more test (a + 1) n))
  where
    by : (b : Bool) → is_some (find test (range_with_len (a + 1) (suc n))) ≡ (is_some (find test (range_with_len (a + 1) n)) || test (a + suc n))
        → is_some (cond b (Some a) (find test (range_with_len (a + 1) (suc n))))
        ≡ (is_some (cond b (Some a) (find test (range_with_len (a + 1) n))) || test (a + suc n))
    by true rest = refl
    by false rest = rest

-- one pair more names the options that were named before, and its own
named_more : (words : List (List ℕ)) (n : ℕ) (setting : Setting) → is_named words (n + 1) setting ≡ (is_named words n setting || names words setting (n + 1))
unfolding naming
named_more words n setting =
    let one : n + 1 ≡ suc n = omega arith in
    let here : 1 + n ≡ n + 1 = omega arith in
    ap (λ m. is_some (find (names words setting) (range_with_len 1 m))) one ∙ found_more (names words setting) 1 n
    ∙ ap (λ k. is_some (find (names words setting) (range_with_len 1 n)) || names words setting k) here

one_if_or : (a b : Bool) → one_if a ≤ one_if (a || b)
one_if_or true b = omega arith
one_if_or false true = omega arith
one_if_or false false = omega arith

still_one : (words : List (List ℕ)) (n : ℕ) (setting : Setting) → one_if (is_named words n setting) ≤ one_if (is_named words (n + 1) setting)
still_one words n setting = omega (arith, one_if_or (is_named words n setting) (names words setting (n + 1)), ap one_if (named_more words n setting))

still_named : (words : List (List ℕ)) (n : ℕ) (list : List Setting) → count_by (is_named words n) list ≤ count_by (is_named words (n + 1)) list
still_named words n [] = omega arith
still_named words n (setting ∷ rest) =
    let before = count-cons (is_named words n) setting rest in
    let after = count-cons (is_named words (n + 1)) setting rest in
    let one : one_if (is_named words n setting) ≤ one_if (is_named words (n + 1) setting) = still_one words n setting in
    omega (arith, still_named words n rest)

one_more_named : (words : List (List ℕ)) (n : ℕ) (setting : Setting) (list : List Setting) → IsAmong setting list → is_named words n setting ≡ false
    → names words setting (n + 1) ≡ true → count_by (is_named words n) list + 1 ≤ count_by (is_named words (n + 1)) list
one_more_named words n setting [] there fresh is = absurd there
one_more_named words n setting (other ∷ rest) (inl same) fresh is =
    let before = count-cons (is_named words n) other rest in
    let after = count-cons (is_named words (n + 1)) other rest in
    let none : one_if (is_named words n other) ≡ 0 = ap (λ s. one_if (is_named words n s)) same ∙ ap one_if fresh in
    let one : one_if (is_named words (n + 1) other) ≡ 1 = ap (λ s. one_if (is_named words (n + 1) s)) same
    ∙ ap one_if (named_more words n setting ∙ ap (λ b. b || names words setting (n + 1)) fresh ∙ is) in
    omega (arith, still_named words n rest)
one_more_named words n setting (other ∷ rest) (inr there) fresh is =
    let before = count-cons (is_named words n) other rest in
    let after = count-cons (is_named words (n + 1)) other rest in
    omega (arith, still_one words n other, one_more_named words n setting rest there fresh is)

-- ---- a pair that isn't at fault

taken_is : (command : Command) (named : Option Setting) (setting : Setting) → if_taken command named ≡ Some setting → named ≡ Some setting
taken_is command None setting is = absurd (cc)
taken_is command (Some other) setting is = ap Some (cond_some (command_takes command other) other setting is).1

option_is : (command : Command) (text : List ℕ) (setting : Setting) → option_named command text ≡ Some setting
    → IsAmong setting settings × (bytes_eq text (option_name setting) ≡ true)
unfolding option_named setting_named
option_is command text setting is =
    find_some (λ (s : Setting). bytes_eq text (option_name s)) settings setting (taken_is command (setting_named text) setting is)

-- the next pair names an option that no earlier pair names
record NamesNewOption (words : List (List ℕ)) (n : ℕ) : Type 0 where
  setting : Setting
  listed : IsAmong setting settings
  is : names words setting (n + 1) ≡ true
  fresh : is_named words n setting ≡ false

good_name : (command : Command) (words : List (List ℕ)) (n : ℕ) (named : Option Setting) → 2 * n + 1 < length words
    → option_named command (word_at words (2 * (n + 1))) ≡ named → is_bad_name command words (n + 1) ≡ false → NamesNewOption words n
good_name command words n None more is good = let bad : is_bad_name command words (n + 1) ≡ true = name_by command words n None more is in absurd (cc)
good_name command words n (Some setting) more is good =
    let name = option_is command (word_at words (2 * (n + 1))) setting is in
    record { setting = setting; listed = name.0; is = name.1; fresh = sym (name_by command words n (Some setting) more is ∙ option_by words n setting) ∙ good }

all_named : (command : Command) (words : List (List ℕ)) (n : ℕ) → 2 * n + 1 ≤ length words → ((i : ℕ) → 1 ≤ i → i ≤ n → is_bad_name command words i ≡ false)
    → n ≤ count_by (is_named words n) settings
all_named command words zero long good = omega arith
all_named command words (suc n) long good =
    let one : n + 1 ≡ suc n = omega arith in
    let before = all_named command words n (omega arith) (λ i low high. good i low (omega arith)) in
    let next = good_name command words n _ (omega arith) refl (good (n + 1) (omega arith) (omega arith)) in
    let more = one_more_named words n next.setting settings next.listed next.fresh next.is in
    subst (λ m. m ≤ count_by (is_named words m) settings) one (omega arith)

-- each option is given once
pub few_read : (most : ℕ) (command : Command) (words : List (List ℕ)) (n : ℕ) → AreRead most command words n → n ≤ length settings
few_read most command words n is = omega (arith, all_named command words n is.whole is.names, count_by-le-length (is_named words n) settings)
