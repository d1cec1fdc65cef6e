-- The test whether a node's component lies within another's.
use Rattle.std.proofs.Common.{◌≡◌, ℕ, ◌<◌, Bool, true, List, [], ◌∷◌, length, refl, sym, ◌∙◌, ap, inl, inr}
use Rattle.std.specs.List.{list_all}
use Rattle.std.proofs.lemmas.Bool.{and_parts, and_from}
use Rattle.comp_tree.specs.declared.shape.Connect.{Connect}
use Rattle.comp_tree.specs.Raster.{Raster, pixels, level, is_defined}
use Rattle.comp_tree.specs.Components.{nodes, is_in_node}
use Rattle.comp_tree.specs.Nesting.{pixels_of, lies_within}
use Rattle.comp_tree.specs.Laws.{top_of, IsNestedIn, LiesWithinIsInclusion}
use Rattle.lemmas.proofs.Exported.{IsAmong, IsRising, among-filter, among_from_filter, rising-pixels}
use Rattle.comp_tree.proofs.Reaching.{among_from_defined}
use Rattle.comp_tree.proofs.Components.{top-here}
use Rattle.comp_tree.proofs.Nodes

-- ---- lists

pub all_gives : {X : Type 0} (test : X → Bool) (xs : List X) (x : X) → list_all test xs ≡ true → IsAmong x xs → test x ≡ true
all_gives test [] x h m = absurd m
all_gives test (y ∷ xs) x h (inl e) = sym (ap test e) ∙ (and_parts (test y) (list_all test xs) h).0
all_gives test (y ∷ xs) x h (inr m) = all_gives test xs x (and_parts (test y) (list_all test xs) h).1 m

pub all_from : {X : Type 0} (test : X → Bool) (xs : List X) → ((x : X) → IsAmong x xs → test x ≡ true) → list_all test xs ≡ true
all_from test [] f = refl
all_from test (x ∷ xs) f = and_from (test x) (list_all test xs) (f x (inl refl)) (all_from test xs (λ y m. f y (inr m)))

-- ---- the pixels of a node

pub in_node-defined : (r : Raster) (connect : Connect) (n q : ℕ) → is_in_node r connect n q ≡ true → is_defined r q ≡ true
unfolding is_in_node
in_node-defined r connect n q h = Nodes.defined_from_reached r connect (level r (top_of r connect n)) (top_of r connect n) q h

pub top_inside : (r : Raster) (connect : Connect) (n : ℕ) → n < length (nodes r connect) → is_in_node r connect n (top_of r connect n) ≡ true
unfolding is_in_node
top_inside r connect n h = top-here r connect n h

pub among_pixels : (r : Raster) (connect : Connect) (n q : ℕ) → is_in_node r connect n q ≡ true → IsAmong q (pixels_of r connect n)
unfolding pixels_of
among_pixels r connect n q h = among-filter (is_in_node r connect n) q (pixels r) (among_from_defined r q (in_node-defined r connect n q h)) h

pub in_node_from_among : (r : Raster) (connect : Connect) (n q : ℕ) → IsAmong q (pixels_of r connect n) → is_in_node r connect n q ≡ true
unfolding pixels_of
in_node_from_among r connect n q m = (among_from_filter (is_in_node r connect n) q (pixels r) m).1

pub rising_pixels_of : (r : Raster) (connect : Connect) (n : ℕ) → IsRising (pixels_of r connect n)
unfolding pixels_of pixels
rising_pixels_of r connect n = rising-pixels (is_in_node r connect n) (length r.values)

-- ---- the test

pub within_from_test : (r : Raster) (connect : Connect) (n m : ℕ) → lies_within r connect n m ≡ true → IsNestedIn r connect n m
unfolding lies_within
within_from_test r connect n m h = λ q k. all_gives (is_in_node r connect m) (pixels_of r connect n) q h (among_pixels r connect n q k)

pub test_from_within : (r : Raster) (connect : Connect) (n m : ℕ) → IsNestedIn r connect n m → lies_within r connect n m ≡ true
unfolding lies_within
test_from_within r connect n m h = all_from (is_in_node r connect m) (pixels_of r connect n) (λ q k. h q (in_node_from_among r connect n q k))

pub lies_within_is_inclusion : LiesWithinIsInclusion
lies_within_is_inclusion r connect n m = (within_from_test r connect n m, test_from_within r connect n m)
