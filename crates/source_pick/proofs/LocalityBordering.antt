-- What lies below a node: a path from below enters its component over a border, and the greatest value on the border is the parent's level.
use Rattle.std.proofs.Common.{◌≡◌, ℕ, ◌<◌, true, length, refl, sym, ◌∙◌, ◌⊎◌, inl, inr}
use Rattle.std.specs.Prelude.{IsTrue, ℤ, int_le, int_lt}
use Rattle.lemmas.proofs.Exported.{cases_int, int_le_from_lt, int_lt_le}
use Rattle.comp_tree.specs.declared.shape.Connect.{Connect}
use Rattle.comp_tree.specs.Raster.{Raster, IsPlane, is_defined, level, is_at_least}
use Rattle.comp_tree.specs.ComponentTree.{no_node}
use Rattle.comp_tree.specs.Grid.{IsAdjacency}
use Rattle.comp_tree.specs.Joined.{IsPairOf}
use Rattle.comp_tree.specs.Components.{IsReached, reaches, nodes, node_of, parent_of}
use Rattle.comp_tree.specs.Laws.{top_of, parent_of_node}
use Rattle.comp_tree.proofs.Exported.{one_way, adjacent_ends, joined_pair, along_joined, reaches-is_IsReached, defined_from_at_least}
use Rattle.comp_tree.proofs.Exported.{IsParent, parent-candidate, parent-of_node, below_no_node}
use Rattle.comp_tree.proofs.Exported as Nodes
use Rattle.source_pick.proofs.NodesSplits.{parent_cases}

-- ---- borders

-- pixel q has a smaller value than p, and is adjacent to a pixel of the component of p
pub record IsBorder (r : Raster) (connect : Connect) (p q : ℕ) : Type 0 where
  pub member : ℕ
  pub inside : IsTrue (reaches r connect (level r p) p member)
  pub adjacent : IsAdjacency r.values r.shape.width connect member q
  pub lower : int_lt (level r q) (level r p) ≡ true

-- such a pixel, of a value of at least v
pub record HasBorder (r : Raster) (connect : Connect) (p : ℕ) (v : ℤ) : Type 0 where
  pub it : ℕ
  pub is : IsBorder r connect p it
  pub enough : int_le v (level r it) ≡ true

-- a path from below to p enters the component over its border
pub border_from_candidate : (r : Raster) (connect : Connect) (p q : ℕ) → Nodes.IsCandidate r connect p q → HasBorder r connect p (level r q)
border_from_candidate r connect p q c =
    last (along_joined (λ x. IsTrue (reaches r connect (level r p) p x) ⊎ HasBorder r connect p (level r q)) step path (inl start))
  where
    path : IsReached r connect (level r q) p q
    path = (reaches-is_IsReached r connect (level r q) p q).0 (Nodes.reaches_sym r connect (level r q) q p c.reaches_it)

    start : IsTrue (reaches r connect (level r p) p p)
    start = Nodes.reaches_here r connect (level r p) p (Nodes.at_least-own r p (Nodes.defined_from_reached r connect (level r q) q p c.reaches_it))

    last : IsTrue (reaches r connect (level r p) p q) ⊎ HasBorder r connect p (level r q) → HasBorder r connect p (level r q)
    last (inl m) = absurd
        (int_lt_le (level r q) (level r p) c.lower (Nodes.level_from_at_least r (level r p) q (Nodes.reaches_end r connect (level r p) p q m)))
    last (inr b) = b

    step : (a b : ℕ) → IsTrue (reaches r connect (level r p) p a) ⊎ HasBorder r connect p (level r q) → IsTrue (is_at_least r (level r q) a)
        → IsPairOf (IsAdjacency r.values r.shape.width connect) a b → IsTrue (is_at_least r (level r q) b)
        → IsTrue (reaches r connect (level r p) p b) ⊎ HasBorder r connect p (level r q)
    step a b (inr k) ia e ib = inr k
    step a b (inl m) ia e ib = go (cases_int (level r b) (level r p))
      where
        d : IsTrue (is_defined r b)
        d = defined_from_at_least r (level r q) b ib

        go : (int_lt (level r b) (level r p) ≡ true) ⊎ (int_le (level r p) (level r b) ≡ true)
            → IsTrue (reaches r connect (level r p) p b) ⊎ HasBorder r connect p (level r q)
        go (inl l) = inr (record {
          it = b;
          is = record { member = a; inside = m; adjacent = one_way r connect a b e; lower = l };
          enough = Nodes.level_from_at_least r (level r q) b ib;
        })
        go (inr l) = inl (Nodes.reaches_trans r connect (level r p) p a b m
            ((reaches-is_IsReached r connect (level r p) a b).1
            (joined_pair a b (Nodes.reaches_end r connect (level r p) p a m) (Nodes.at_least-from r (level r p) b d l) e)))

-- from each border p is reached at the border's level
pub candidate_from_border : (r : Raster) (connect : Connect) (p q : ℕ) → IsBorder r connect p q → Nodes.IsCandidate r connect p q
candidate_from_border r connect p q b = record {
  lower = b.lower;
  reaches_it = Nodes.reaches_sym r connect (level r q) p q (Nodes.reaches_trans r connect (level r q) p b.member q to_member beside);
}
  where
    to_member : IsTrue (reaches r connect (level r q) p b.member)
    to_member = Nodes.reaches_lower r connect (level r q) (level r p) p b.member (int_le_from_lt (level r q) (level r p) b.lower) b.inside

    beside : IsTrue (reaches r connect (level r q) b.member q)
    beside = (reaches-is_IsReached r connect (level r q) b.member q).1
        (joined_pair b.member q (Nodes.reaches_end r connect (level r q) p b.member to_member)
        (Nodes.at_least-own r q (adjacent_ends r.values r.shape.width connect b.member q b.adjacent).1) (inl b.adjacent))

-- what is below p has something of at least this value
pub record HasCandidate (s : Raster) (connect : Connect) (p : ℕ) (v : ℤ) : Type 0 where
  pub it : ℕ
  pub is : Nodes.IsCandidate s connect p it
  pub enough : int_le v (level s it) ≡ true

-- ---- parents

-- a node's parent, by what is below it
pub data ParentIs (r : Raster) (connect : Connect) (n : ℕ) : Type 0 where
  is_root : parent_of_node r connect n ≡ no_node → ((q : ℕ) → Nodes.IsCandidate r connect (top_of r connect n) q → ⊥) → ParentIs r connect n
  is_child : (k : ℕ) → parent_of_node r connect n ≡ k → k < length (nodes r connect) → IsParent r connect k n → ParentIs r connect n

-- it is one of these two
pub parent_is : (r : Raster) (connect : Connect) (n : ℕ) → IsPlane r → n < length (nodes r connect) → ParentIs r connect n
parent_is r connect n plane hn = go (parent_cases r connect n plane hn)
  where
    none : parent_of_node r connect n ≡ no_node → (q : ℕ) → Nodes.IsCandidate r connect (top_of r connect n) q → ⊥
    none e q c = at (parent_of r connect (top_of r connect n)) (Nodes.parent-case r connect (top_of r connect n)) (sym (parent-of_node r connect n hn) ∙ e)
      where
        at : (j : ℕ) → Nodes.ParentCase r connect (top_of r connect n) j → j ≡ no_node → ⊥
        at j (Nodes.root empty) f = empty q (Nodes.candidate-from r connect (top_of r connect n) q c)
        at j (Nodes.child x k top) f =
            below_no_node r connect (node_of r connect x) plane
            (Nodes.node_of-is r connect x (defined_from_at_least r (level r x) x
            (Nodes.reaches_start r connect (level r x) x (top_of r connect n) (Nodes.candidate-parts r connect (top_of r connect n) x k).reaches_it))).below f

    go : (parent_of_node r connect n ≡ no_node) ⊎ (parent_of_node r connect n < length (nodes r connect)) → ParentIs r connect n
    go (inl e) = is_root e (none e)
    go (inr l) = is_child (parent_of_node r connect n) refl l
        (parent-candidate r connect (parent_of_node r connect n) n plane hn l (sym (parent-of_node r connect n hn)))
