-- The words at fault in so many pairs of a name and a value.
use Rattle.std.proofs.Common.{◌≡◌, ◌∙◌, ℕ, ◌+◌, ◌-◌, ◌*◌, ◌/◌, ◌%◌, ◌<◌, ◌≤◌, ◌==◌, ◌≢◌, inl, inr, Bool, true, false, not, cond, nat_lt, List, []}
use Rattle.std.proofs.Common.{◌∷◌, length, get_or, refl, sym, ap, eq-eqb, arith}
use Rattle.std.specs.Prelude.{ℤ, Option, Some, None, is_some, option_and_then}
use Rattle.std.specs.Option.{option_map, MatchOption}
use Rattle.std.specs.Str.{bytes_eq}
use Rattle.std.proofs.lemmas.Bool.{cases_lt}
use Rattle.std.proofs.lemmas.Bool.Decides.{nat_tests}
use Rattle.std.proofs.lemmas.List.{length-map}
use denote.Ref.{Bor}
use Rattle.orders.specs.declared.options.Command.{Command}
use Rattle.orders.specs.declared.options.Setting.{Setting}
use Rattle.orders.specs.declared.options.Setting.TheVariants.{Threshold, Values}
use Rattle.source_pick.specs.declared.choice.Choice.{Choice}
use Rattle.orders.specs.declared.words.Job.{Job}
use Rattle.orders.specs.declared.words.Job.TheVariants.{Measure}
use Rattle.lemmas.proofs.Exported.{find_first, find_nothing, find_in_range}
use Rattle.command_line.proofs.Exported.{text_at, text_in}
use Rattle.orders.specs.Options.{option_name, option_named, is_value, u16_in, threshold_in}
use Rattle.command_line.specs.Lines.{texts}
use Rattle.orders.specs.Words.{word_at, names, naming, value_given, is_bad_option, is_bad_name, is_bad_value, is_at_fault, first_at_fault, job_given}
use Rattle.orders.specs.Words.{order_for, order_unless, order_within, command_of, at_fault, given, hdu_given, choice_given, measure_apart, measuring_given}
use Rattle.orders.specs.Given.{AreRead, AreAllRead, IsFirstFault}

-- word k is the one at place k - 1
pub text_of : (words : List (Bor (List ℕ))) (k i : ℕ) (d : Bor (List ℕ)) → i < length words → k ≡ i + 1 → (get_or words i d).now ≡ word_at (texts words) k
unfolding word_at
text_of words k i d within is =
    let there : i ≡ k - 1 = omega arith in
    text_at words i d within ∙ ap (λ j. get_or (texts words) j []) there

-- what word 2 * (n + 1) is compared with
pub name_at : (words : List (Bor (List ℕ))) (setting : Setting) (n : ℕ) (d : Bor (List ℕ)) (name : List ℕ) (b : Bool) → 2 * n + 1 < length words
    → name ≡ option_name setting → bytes_eq (get_or words (2 * n + 1) d).now name ≡ b → names (texts words) setting (n + 1) ≡ b
name_at words setting n d name b within named h =
    ap (λ w. bytes_eq w (option_name setting)) (sym (text_of words (2 * (n + 1)) (2 * n + 1) d within (omega arith)))
    ∙ ap (bytes_eq (get_or words (2 * n + 1) d).now) (sym named) ∙ h

-- where none of the first n passes a test, and the next doesn't, none of the first n + 1 does
pub up_to_more : (P : ℕ → Bool) (n : ℕ) → ((i : ℕ) → 1 ≤ i → i ≤ n → P i ≡ false) → P (n + 1) ≡ false → (i : ℕ) → 1 ≤ i → i ≤ n + 1 → P i ≡ false
up_to_more P n before here i low high = elim (cases_lt n i) [ inl more ↦ let same : i ≡ n + 1 = omega arith in ap P same ∙ here | inr less ↦ before i low less ]

-- the first pair that names the option
pub first_naming : (words : List (List ℕ)) (setting : Setting) (n k : ℕ) → 1 ≤ k → k ≤ n → names words setting k ≡ true
    → ((j : ℕ) → 1 ≤ j → j < k → names words setting j ≡ false) → naming words setting n ≡ Some k
unfolding naming
first_naming words setting n k low high is none = find_first (names words setting) 1 n k low (omega arith) is none

pub no_naming : (words : List (List ℕ)) (setting : Setting) (n : ℕ) → ((j : ℕ) → 1 ≤ j → j ≤ n → names words setting j ≡ false) → naming words setting n ≡ None
unfolding naming
no_naming words setting n none = find_nothing (names words setting) 1 n (λ j low high. none j low (omega arith))

-- a pair that was found is one of those asked
pub naming_within : (words : List (List ℕ)) (setting : Setting) (n k : ℕ) → naming words setting n ≡ Some k → (1 ≤ k) × (k ≤ n)
unfolding naming
naming_within words setting n k is =
    let range = find_in_range (names words setting) 1 n k is in
    (range.0, omega (arith, range.1))

-- the value of an option is the word behind its name
pub value_is : (words : List (Bor (List ℕ))) (setting : Setting) (n k : ℕ) (d : Bor (List ℕ)) → naming (texts words) setting n ≡ Some k → 2 * n < length words
    → Some (get_or words (2 * k) d).now ≡ value_given (texts words) n setting
unfolding value_given
value_is words setting n k d is long =
    let range = naming_within (texts words) setting n k is in
    ap Some (text_of words (2 * k + 1) (2 * k) d (omega (arith, range.1)) refl) ∙ sym (ap (option_map (λ i. word_at (texts words) (2 * i + 1))) is)

pub no_value : (words : List (List ℕ)) (setting : Setting) (n : ℕ) → naming words setting n ≡ None → None ≡ value_given words n setting
unfolding value_given
no_value words setting n is = sym (ap (option_map (λ i. word_at words (2 * i + 1))) is)

-- what the value of an option means
pub given_by : {T : Type 0} (text : Option (Bor (List ℕ))) (result : Option T) (read : List ℕ → Option T) (value : Option (List ℕ))
    → option_map (λ t. t.now) text ≡ value
    → MatchOption text (result ≡ None) (λ t. result ≡ read t.now) → result ≡ option_and_then read value
given_by (Some t) result read value is reads = reads ∙ ap (option_and_then read) is
given_by None result read value is reads = reads ∙ ap (option_and_then read) is

-- ---- the places at fault

name_place : (most : ℕ) (command : Command) (words : List (List ℕ)) (i : ℕ) → is_at_fault most command words (2 * i) ≡ is_bad_name command words i
unfolding is_at_fault
name_place most command words i =
    let even : (2 * i) % 2 ≡ 0 = omega arith in
    let half : (2 * i) / 2 ≡ i = omega arith in
    rw (even, half) refl

value_place : (most : ℕ) (command : Command) (words : List (List ℕ)) (i : ℕ) → is_at_fault most command words (2 * i + 1) ≡ is_bad_value most command words i
unfolding is_at_fault
value_place most command words i =
    let odd : (2 * i + 1) % 2 ≡ 1 = omega arith in
    let half : (2 * i + 1) / 2 ≡ i = omega arith in
    rw (odd, half) refl

none_so_far : (most : ℕ) (command : Command) (words : List (List ℕ)) (n : ℕ) → AreRead most command words n → (j : ℕ) → 2 ≤ j → j < 2 * n + 2
    → is_at_fault most command words j ≡ false
unfolding is_at_fault
none_so_far most command words n is j low high = by (j % 2 == 0)
  where
    by : (b : Bool) → cond b (is_bad_name command words (j / 2)) (is_bad_value most command words (j / 2)) ≡ false
    by true = is.names (j / 2) (omega arith) (omega arith)
    by false = is.values (j / 2) (omega arith) (omega arith)

-- nor is the next name
none_with_name : (most : ℕ) (command : Command) (words : List (List ℕ)) (n : ℕ) → AreRead most command words n → is_bad_name command words (n + 1) ≡ false → (j : ℕ)
    → 2 ≤ j → j < 2 * n + 3 → is_at_fault most command words j ≡ false
none_with_name most command words n is good j low high = elim (cases_lt j (2 * n + 2)) [
  | inl less ↦ none_so_far most command words n is j low less
  | inr more ↦ let there : j ≡ 2 * (n + 1) = omega arith in ap (is_at_fault most command words) there ∙ name_place most command words (n + 1) ∙ good
]

-- ---- the next pair

pub name_by : (command : Command) (words : List (List ℕ)) (n : ℕ) (named : Option Setting) → 2 * n + 1 < length words
    → option_named command (word_at words (2 * (n + 1))) ≡ named
    → is_bad_name command words (n + 1) ≡ is_bad_option words (n + 1) named
unfolding is_bad_name
name_by command words n named more is =
    let there : nat_lt (length words) (2 * (n + 1)) ≡ false = grind (arith, nat_tests) in
    rw (there, is) refl

pub option_by : (words : List (List ℕ)) (n : ℕ) (setting : Setting) → is_bad_option words (n + 1) (Some setting) ≡ is_some (naming words setting n)
option_by words n setting = let one : n + 1 - 1 ≡ n = omega arith in ap (λ m. is_some (naming words setting m)) one

-- so many pairs are read, and the name behind them gives this
pub record IsNext (most : ℕ) (command : Command) (words : List (Bor (List ℕ))) (n : ℕ) (named : Option Setting) : Type 0 where
  read : AreRead most command (texts words) n
  more : 2 * n + 1 < length (texts words)
  named_is : option_named command (word_at (texts words) (2 * (n + 1))) ≡ named

pub next_is : (most : ℕ) (command : Command) (words : List (Bor (List ℕ))) (n : ℕ) (d : Bor (List ℕ)) (named : Option Setting) → AreRead most command (texts words) n
    → 2 * n + 1 < length words → named ≡ option_named command (get_or words (2 * n + 2 - 1) d).now → IsNext most command words n named
next_is most command words n d named read more is = record {
  read = read;
  more = text_in words _ more;
  named_is = ap (option_named command) (sym (text_of words (2 * (n + 1)) (2 * n + 2 - 1) d (omega arith) (omega arith))) ∙ sym is;
}

pub name_at_fault : (most : ℕ) (command : Command) (words : List (Bor (List ℕ))) (n : ℕ) (named : Option Setting) → IsNext most command words n named
    → is_bad_option (texts words) (n + 1) named ≡ true → IsFirstFault most command (texts words) (2 * n + 2)
name_at_fault most command words n named next bad =
    let here : 2 * n + 2 ≡ 2 * (n + 1) = omega arith in
    record {
      behind = omega arith;
      within = omega (arith, next.more);
      is = ap (is_at_fault most command (texts words)) here ∙ name_place most command (texts words) (n + 1)
          ∙ name_by command (texts words) n named next.more next.named_is ∙ bad;
      none_before = λ j l h. none_so_far most command (texts words) n next.read j l (omega arith);
    }

-- a new option, whose value comes next
pub record IsNew (most : ℕ) (command : Command) (words : List (Bor (List ℕ))) (n : ℕ) (setting : Setting) : Type 0 where
  next : IsNext most command words n (Some setting)
  good : is_bad_name command (texts words) (n + 1) ≡ false

pub new_is : (most : ℕ) (command : Command) (words : List (Bor (List ℕ))) (n : ℕ) (setting : Setting) → IsNext most command words n (Some setting)
    → is_some (naming (texts words) setting n) ≡ false → IsNew most command words n setting
new_is most command words n setting next known = record {
  next = next;
  good = name_by command (texts words) n (Some setting) next.more next.named_is ∙ option_by (texts words) n setting ∙ known;
}

pub value_at_fault : (most : ℕ) (command : Command) (words : List (Bor (List ℕ))) (n : ℕ) (setting : Setting) → IsNew most command words n setting
    → is_bad_value most command (texts words) (n + 1) ≡ true → IsFirstFault most command (texts words) (2 * n + 2 + 1)
value_at_fault most command words n setting new bad =
    let here : 2 * n + 2 + 1 ≡ 2 * (n + 1) + 1 = omega arith in
    record {
      behind = omega arith;
      within = omega (arith, new.next.more);
      is = ap (is_at_fault most command (texts words)) here ∙ value_place most command (texts words) (n + 1) ∙ bad;
      none_before = λ j l h. none_with_name most command (texts words) n new.next.read new.good j l (omega arith);
    }

pub value_missing : (most : ℕ) (command : Command) (words : List (Bor (List ℕ))) (n : ℕ) → false ≡ nat_lt (2 * n + 2) (length words)
    → is_bad_value most command (texts words) (n + 1) ≡ true
unfolding is_bad_value
value_missing most command words n short =
    let there : nat_lt (length (texts words)) (2 * (n + 1) + 1) ≡ true = grind (arith, nat_tests, length-map words (λ (w : Bor (List ℕ)). w.now)) in
    rw there refl

pub value_by : (most : ℕ) (command : Command) (words : List (Bor (List ℕ))) (n : ℕ) (setting : Setting) (text : Bor (List ℕ)) (b : Bool) → IsNew most command words n setting
    → 2 * n + 2 < length words → text ≡ get_or words (2 * n + 2) text → is_value most setting text.now ≡ not b → is_bad_value most command (texts words) (n + 1) ≡ b
unfolding is_bad_value
value_by most command words n setting text b new within is reads =
    let long = text_in words _ within in
    let there : nat_lt (length (texts words)) (2 * (n + 1) + 1) ≡ false = grind (arith, nat_tests) in
    let word = ap (λ (w : Bor (List ℕ)). w.now) is ∙ text_of words (2 * (n + 1) + 1) (2 * n + 2) text within (omega arith) in
    rw (there, new.next.named_is, ← word, reads) (twice b)
  where
    twice : (b : Bool) → not (not b) ≡ b
    twice true = refl
    twice false = refl

pub pair_read : (most : ℕ) (command : Command) (words : List (Bor (List ℕ))) (n : ℕ) (setting : Setting) → IsNew most command words n setting → 2 * n + 2 < length words
    → is_bad_value most command (texts words) (n + 1) ≡ false → AreRead most command (texts words) (n + 1)
pair_read most command words n setting new within value = record {
  whole = omega (arith, text_in words _ within);
  names = up_to_more (is_bad_name command (texts words)) n new.next.read.names new.good;
  values = up_to_more (is_bad_value most command (texts words)) n new.next.read.values value;
}

-- ---- all words

-- words that name a command are not none
pub command_there : (words : List (Bor (List ℕ))) (command : Command) → command_of (texts words) ≡ Some command → 0 < length words
command_there [] command is = absurd (cc)
command_there (first ∷ rest) command is = omega arith

pub nothing_read : (most : ℕ) (command : Command) (words : List (Bor (List ℕ))) → 0 < length words → AreRead most command (texts words) 0
nothing_read most command words some = record {
  whole = omega (arith, length-map words (λ (w : Bor (List ℕ)). w.now));
  names = λ i low high. absurd (omega arith);
  values = λ i low high. absurd (omega arith);
}

pub all_read : (most : ℕ) (command : Command) (words : List (Bor (List ℕ))) (n : ℕ) → AreRead most command (texts words) n → length words ≤ 2 * n + 1
    → AreAllRead most command (texts words) n
all_read most command words n is all = record { read = is; all = omega (arith, all, length-map words (λ (w : Bor (List ℕ)). w.now)) }

fault_found : (most : ℕ) (command : Command) (words : List (List ℕ)) (k : ℕ) → IsFirstFault most command words k → first_at_fault most command words ≡ Some k
unfolding first_at_fault
fault_found most command words k fault =
    find_first (is_at_fault most command words) 2 (length words) k fault.behind (omega (arith, fault.within)) fault.is fault.none_before

end_passed : (command : Command) (words : List (List ℕ)) (n : ℕ) → length words ≤ 2 * n + 1 → is_bad_name command words (n + 1) ≡ false
unfolding is_bad_name
end_passed command words n all =
    let past : nat_lt (length words) (2 * (n + 1)) ≡ true = grind (arith, nat_tests) in
    rw past refl

all_passed : (most : ℕ) (command : Command) (words : List (List ℕ)) (n : ℕ) → AreRead most command words n → length words ≤ 2 * n + 1
    → (j : ℕ) → 2 ≤ j → j < 2 + length words → is_at_fault most command words j ≡ false
all_passed most command words n is all j low high = none_with_name most command words n is (end_passed command words n all) j low (omega arith)

no_fault : (most : ℕ) (command : Command) (words : List (List ℕ)) (n : ℕ) → AreAllRead most command words n → first_at_fault most command words ≡ None
unfolding first_at_fault
no_fault most command words n is = find_nothing (is_at_fault most command words) 2 (length words) (all_passed most command words n is.read is.all)

half_is : (most : ℕ) (command : Command) (words : List (List ℕ)) (n : ℕ) → AreAllRead most command words n → length words / 2 ≡ n
half_is most command words n is = omega (arith, is.read.whole, is.all)

end_is : (most : ℕ) (command : Command) (words : List (List ℕ)) (n : ℕ) → AreAllRead most command words n → length words + 1 ≡ 2 * n + 2
end_is most command words n is = omega (arith, is.read.whole, is.all)

-- ---- the order

pub refused_at : (most : ℕ) (command : Command) (words : List (List ℕ)) (k : ℕ) → command_of words ≡ Some command → IsFirstFault most command words k
    → order_within most words ≡ at_fault k
unfolding order_within
refused_at most command words k is fault = let first = fault_found most command words k fault in rw (is, first) refl

-- all words are read: the order is the one that is given, if nothing is missing
pub ordered : (most : ℕ) (command : Command) (words : List (List ℕ)) (n : ℕ) (job : Option Job) → command_of words ≡ Some command → AreAllRead most command words n
    → job_given most command words n ≡ job → order_within most words ≡ order_unless None (2 * n + 2) (option_map (order_for words n) job)
unfolding order_within
ordered most command words n job is_command is given =
    rw (is_command, no_fault most command words n is, half_is most command words n is, end_is most command words n is, given) refl

pub no_command : (most : ℕ) (words : List (List ℕ)) → command_of words ≡ None → order_within most words ≡ at_fault 1
unfolding order_within
no_command most words none = rw none refl

-- ---- measuring

pub measuring_by : (most : ℕ) (words : List (List ℕ)) (n : ℕ) (threshold : Option ℤ) (values : Option ℕ) → threshold ≡ given threshold_in words n Threshold
    → values ≡ given u16_in words n Values
    → option_and_then (λ t. option_and_then (measure_apart (hdu_given words n) (choice_given most words n t)) values) threshold ≡ measuring_given most words n
unfolding measuring_given
measuring_by most words n threshold values p q = rw (p, q) refl

pub one_hdu : (hdu : ℕ) (choice : Choice) (values : ℕ) → values ≡ hdu → measure_apart hdu choice values ≡ None
one_hdu hdu choice values both = let test = eq-eqb values hdu both in rw test refl

pub two_hdus : (hdu : ℕ) (choice : Choice) (values : ℕ) → values ≢ hdu → measure_apart hdu choice values ≡ Some (Measure choice values)
two_hdus hdu choice values apart = let test : (values == hdu) ≡ false = grind (arith, nat_tests) in rw test refl
