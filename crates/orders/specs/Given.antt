-- Bookkeeping: how far the reading of the words has come.
use Rattle.std.specs.Prelude.{◌≡◌, ℕ, ◌+◌, ◌*◌, ◌<◌, ◌≤◌, true, false, List, length}
use Rattle.orders.specs.declared.options.Command.{Command}
use Rattle.orders.specs.Words.{is_bad_name, is_bad_value, is_at_fault}

-- the first n pairs of a name and a value are there, and none of them is at fault
pub record AreRead (most : ℕ) (command : Command) (words : List (List ℕ)) (n : ℕ) : Type 0 where
  pub whole : 2 * n + 1 ≤ length words
  pub names : (i : ℕ) → 1 ≤ i → i ≤ n → is_bad_name command words i ≡ false
  pub values : (i : ℕ) → 1 ≤ i → i ≤ n → is_bad_value most command words i ≡ false

-- the first n pairs are read, and no word is left
pub record AreAllRead (most : ℕ) (command : Command) (words : List (List ℕ)) (n : ℕ) : Type 0 where
  pub read : AreRead most command words n
  pub all : length words ≤ 2 * n + 1

-- word k is the first at fault behind the command
pub record IsFirstFault (most : ℕ) (command : Command) (words : List (List ℕ)) (k : ℕ) : Type 0 where
  pub behind : 2 ≤ k
  pub within : k ≤ length words + 1
  pub is : is_at_fault most command words k ≡ true
  pub none_before : (j : ℕ) → 2 ≤ j → j < k → is_at_fault most command words j ≡ false
