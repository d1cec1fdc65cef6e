-- Bookkeeping: how the lists lie in the arrays.
use Rattle.std.specs.Prelude.{◌≡◌, ℕ, zero, suc, ◌-◌, ◌^◌, ◌<◌, ◌≤◌, Bool, List, []}
use Rattle.std.specs.Prelude.{◌∷◌, length, map, get_or, slice_get, Option, Some, None, is_some, option_map}
use Rattle.level_queue.specs.Queue.{Queue}
use Rattle.level_queue.specs.declared.queue.Ends.{Ends}

-- the items that the links lead through, n at most
abbrev pub follow : List (Option ℕ) → ℕ → Option ℕ → List ℕ
follow links zero at = []
follow links (suc n) None = []
follow links (suc n) (Some x) = x ∷ follow links n (get_or links x None)

-- the list between these ends
abbrev pub list_between : List (Option ℕ) → Option Ends → List ℕ
list_between links ends = follow links (length links) (option_map (λ e. e.first) ends)

abbrev pub lists_of : List (Option ℕ) → List (Option Ends) → List (List ℕ)
lists_of links ends = map (list_between links) ends

abbrev pub queue_of : List (Option ℕ) → List (Option Ends) → Queue
queue_of links ends = record { items = length links; lists = lists_of links ends }

-- the item at index i of a rank's list
abbrev pub item_at : List (List ℕ) → ℕ → ℕ → Option ℕ
item_at lists rank i = slice_get (get_or lists rank []) i

-- The lists lie in the arrays. A rank whose list is empty has no ends. The link of an item is the item after it, and there is
-- none at the last item of a list and at an item that stands in no list.
pub record IsLaid (links : List (Option ℕ)) (ends : List (Option Ends)) (lists : List (List ℕ)) : Type 0 where
  pub count : length lists ≡ length ends
  pub empty : (r : ℕ) → get_or ends r None ≡ None → get_or lists r [] ≡ []
  pub first : (r : ℕ) (e : Ends) → get_or ends r None ≡ Some e → item_at lists r 0 ≡ Some e.first
  pub last : (r : ℕ) (e : Ends) → get_or ends r None ≡ Some e → item_at lists r (length (get_or lists r []) - 1) ≡ Some e.last
  pub link : (r i x : ℕ) → item_at lists r i ≡ Some x → get_or links x None ≡ item_at lists r (suc i)
  pub inside : (r i x : ℕ) → item_at lists r i ≡ Some x → x < length links
  pub once : (r i s j x : ℕ) → item_at lists r i ≡ Some x → item_at lists s j ≡ Some x → (r ≡ s) × (i ≡ j)
  pub loose : (x : ℕ) → ((r i : ℕ) → item_at lists r i ≡ Some x → ⊥) → get_or links x None ≡ None

-- The lists that the links lead through lie in the arrays, the ranks with ends are those in use, and both numbers are within the limit.
abbrev pub Holds : List (Option ℕ) → List (Option Ends) → List Bool → Type 0
Holds links ends used =
    IsLaid links ends (lists_of links ends) × (used ≡ map is_some ends) × (length links ≤ 2 ^ 24) × (length ends ≤ 2 ^ 24)
