-- Model: laws on answers.
use Rattle.std.specs.Prelude.{ℕ, ◌≤◌, List}
use Rattle.run_relation.specs.Headline.{Asked}
use Rattle.run_relation.specs.Answers.{end_status}

-- the answer is done, a usage or a refusal: words and bytes alone show no device's fault, and no want of memory
abbrev pub AnswersAreOfWordsAndBytes : (List (List ℕ) → Asked) → Type 0
AnswersAreOfWordsAndBytes asks = (words : List (List ℕ)) (bytes : List ℕ) → end_status ((asks words).answer bytes).end ≤ 2
