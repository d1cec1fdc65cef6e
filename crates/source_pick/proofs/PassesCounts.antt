-- The steps of the passes that count strong children, and hand splits upwards.
use Rattle.std.proofs.Common.{◌≡◌, ℕ, ◌+◌, ◌<◌, ◌≤◌, Bool, true, false, List, length, refl, sym, ◌∙◌, ap, subst, arith, ◌⊎◌, inl, inr}
use Rattle.std.proofs.Common.{get_or, set, replicate}
use Rattle.std.specs.Prelude.{slice_get, slice_index_or, Some}
use Rattle.std.proofs.lemmas.Bool.{cases_lt, cases_eq}
use Rattle.std.proofs.lemmas.List.{length-set, length-replicate, get_or-replicate, get_or-set_same, get_or-set_other}
use Rattle.std.proofs.lemmas.Option.{slice_get_within, get_or_from_slice_get}
use Rattle.comp_tree.specs.declared.tree.NodeRow.{NodeRow}
use Rattle.comp_tree.specs.ComponentTree.{parent_in, no_node}
use Rattle.comp_tree.specs.Laws.{IsAncestor, parent, above}
use Rattle.node_sums.proofs.Exported.{get-written}
use Rattle.source_pick.specs.declared.splitting.StrongChildren.{StrongChildren}
use Rattle.source_pick.specs.declared.splitting.StrongChildren.TheVariants.{Zero, One, Several}
use Rattle.node_sums.specs.NodeNumbers.{IsOnWay}
use Rattle.source_pick.specs.Passes.{IsStrongChild, HasStrongChildren, AreStrongChildCounts, with_one_more, IsAboveSplit, ArePassed, AreAboveSplits}
use Rattle.node_sums.proofs.Exported.{way_trans}

-- ---- counting

stays : (rows : List NodeRow) (entries : List ℕ) (strong : List Bool) (k m : ℕ) (c : StrongChildren) → (IsStrongChild rows entries strong m k → ⊥)
    → HasStrongChildren rows entries strong k m c → HasStrongChildren rows entries strong (k + 1) m c
stays rows entries strong k m Zero out h = record { none = λ n l i. go n (cases_lt n k) l i }
  where
    go : (n : ℕ) → (n < k) ⊎ (k ≤ n) → n < k + 1 → IsStrongChild rows entries strong m n → ⊥
    go n (inl x) l i = h.none n x i
    go n (inr x) l i = let e : n ≡ k = omega arith in out (subst (λ (j : ℕ). IsStrongChild rows entries strong m j) e i)
stays rows entries strong k m One out h = record { first = h.first; below = omega (arith, h.below); one = h.one; only = λ n l i. go n (cases_lt n k) l i }
  where
    go : (n : ℕ) → (n < k) ⊎ (k ≤ n) → n < k + 1 → IsStrongChild rows entries strong m n → n ≡ h.first
    go n (inl x) l i = h.only n x i
    go n (inr x) l i = let e : n ≡ k = omega arith in absurd (out (subst (λ (j : ℕ). IsStrongChild rows entries strong m j) e i))
stays rows entries strong k m Several out h =
    record { first = h.first; second = h.second; apart = h.apart; below = omega (arith, h.below); one = h.one; other = h.other }

more : (rows : List NodeRow) (entries : List ℕ) (strong : List Bool) (k m : ℕ) (c : StrongChildren) → IsStrongChild rows entries strong m k
    → HasStrongChildren rows entries strong k m c → HasStrongChildren rows entries strong (k + 1) m (with_one_more c)
more rows entries strong k m Zero i h = record { first = k; below = omega arith; one = i; only = λ n l j. go n (cases_lt n k) l j }
  where
    go : (n : ℕ) → (n < k) ⊎ (k ≤ n) → n < k + 1 → IsStrongChild rows entries strong m n → n ≡ k
    go n (inl x) l j = absurd (h.none n x j)
    go n (inr x) l j = omega arith
more rows entries strong k m One i h = record { first = h.first; second = k; apart = h.below; below = omega arith; one = h.one; other = i }
more rows entries strong k m Several i h =
    record { first = h.first; second = h.second; apart = h.apart; below = omega (arith, h.below); one = h.one; other = h.other }

all_zero : (n m : ℕ) (c : StrongChildren) → slice_get (replicate n Zero) m ≡ Some c → c ≡ Zero
all_zero n m c e =
    let l : m < length (replicate n Zero) = slice_get_within (replicate n Zero) m c e in
    sym (get_or_from_slice_get (replicate n Zero) m c Zero e) ∙ get_or-replicate n m Zero Zero (omega (arith, l, length-replicate n Zero))

pub counted_none : (rows : List NodeRow) (entries : List ℕ) (strong : List Bool) (n : ℕ) (children : List StrongChildren)
    → children ≡ replicate n Zero → n ≡ length rows → AreStrongChildCounts rows entries strong 0 children
counted_none rows entries strong n children e f =
    subst (λ (xs : List StrongChildren). AreStrongChildCounts rows entries strong 0 xs) (sym e) (record {
      one_each = length-replicate n Zero ∙ f;
      each = λ m c g. subst (λ (s : StrongChildren). HasStrongChildren rows entries strong 0 m s) (sym (all_zero n m c g))
          (record { none = λ k l i. absurd (omega arith) });
    })

pub counted_without : (rows : List NodeRow) (entries : List ℕ) (strong : List Bool) (k : ℕ) (children : List StrongChildren)
    → AreStrongChildCounts rows entries strong k children
    → ((m : ℕ) → m < length rows → IsStrongChild rows entries strong m k → ⊥) → AreStrongChildCounts rows entries strong (k + 1) children
counted_without rows entries strong k children h out = record {
  one_each = h.one_each;
  each = λ m c g. stays rows entries strong k m c (out m
      (let a : m < length children = slice_get_within children m c g in let b : length children ≡ length rows = h.one_each in omega arith)) (h.each m c g);
}

pub counted_with : (rows : List NodeRow) (entries : List ℕ) (strong : List Bool) (k m : ℕ) (c v : StrongChildren) (children : List StrongChildren)
    → AreStrongChildCounts rows entries strong k children
    → slice_get children m ≡ Some c → IsStrongChild rows entries strong m k → v ≡ with_one_more c
    → AreStrongChildCounts rows entries strong (k + 1) (set children m v)
counted_with rows entries strong k m c v children h at inner e =
    record { one_each = length-set children m v ∙ h.one_each; each = λ j d g. go j d (get-written children m v j d g) }
  where
    go : (j : ℕ) (d : StrongChildren) → ((j ≡ m) × (v ≡ d)) ⊎ ((j ≡ m → ⊥) × (slice_get children j ≡ Some d))
        → HasStrongChildren rows entries strong (k + 1) j d
    go j d (inl x) =
        subst (λ (y : ℕ). HasStrongChildren rows entries strong (k + 1) y d) (sym x.0)
        (subst (λ (y : StrongChildren). HasStrongChildren rows entries strong (k + 1) m y) (sym e ∙ x.1) (more rows entries strong k m c inner (h.each m c at)))
    go j d (inr x) = stays rows entries strong k j d (λ i. x.0 (sym i.is_child ∙ inner.is_child)) (h.each j d x.1)

pub counted_up_to : (rows : List NodeRow) (entries : List ℕ) (strong : List Bool) (j k : ℕ) (children : List StrongChildren)
    → AreStrongChildCounts rows entries strong k children → j ≡ k
    → AreStrongChildCounts rows entries strong j children
counted_up_to rows entries strong j k children h e = subst (λ (n : ℕ). AreStrongChildCounts rows entries strong n children) (sym e) h

-- ---- handing upwards

pub passed_none : (rows : List NodeRow) (splits : List Bool) → length splits ≡ length rows → ArePassed rows splits (length rows) splits
passed_none rows splits l = record {
  one_each = l;
  sound = λ m h f. record { split = m; inside = h; on_way = inl refl; is_split = f };
  kept = λ m f. f;
  handed = λ m n h k e i f. absurd (omega arith);
}

still : (flags : List Bool) (p m : ℕ) → p < length flags → slice_index_or flags m false ≡ true → slice_index_or (set flags p true) m false ≡ true
still flags p m h f = go (cases_eq m p)
  where
    go : (m ≡ p) ⊎ (m ≡ p → ⊥) → slice_index_or (set flags p true) m false ≡ true
    go (inl e) = ap (λ (x : ℕ). get_or (set flags p true) x false) e ∙ get_or-set_same flags p true false h
    go (inr d) = get_or-set_other flags p m true false d ∙ f

-- the turn at node n: where its flag is set, its parent's is
pub passed_with : (rows : List NodeRow) (splits : List Bool) (k n p : ℕ) (flags : List Bool) → ArePassed rows splits k flags → k ≡ n + 1 → n < length rows
    → slice_index_or flags n false ≡ true → parent_in rows n ≡ p → p < n → ArePassed rows splits n (set flags p true)
passed_with rows splits k n p flags h e inside flag is_parent l = record {
  one_each = length-set flags p true ∙ h.one_each;
  sound = λ m x f. sound m x (cases_eq m p) f;
  kept = λ m f. still flags p m here (h.kept m f);
  handed = λ m j a b c d f. handed m j a b c d (cases_eq j n) f;
}
  where
    here : p < length flags
    here = omega (arith, h.one_each)

    sound : (m : ℕ) → m < length rows → (m ≡ p) ⊎ (m ≡ p → ⊥) → slice_index_or (set flags p true) m false ≡ true → IsAboveSplit rows splits m
    sound m x (inl y) f =
        let s : IsAboveSplit rows splits n = h.sound n inside flag in
        let up : IsAncestor rows m n = parent n (is_parent ∙ sym y) x in
        record { split = s.split; inside = s.inside; on_way = way_trans rows m n s.split (inr up) s.on_way; is_split = s.is_split }
    sound m x (inr y) f = h.sound m x (sym (get_or-set_other flags p m true false y) ∙ f)

    handed : (m j : ℕ) → n ≤ j → j < length rows → parent_in rows j ≡ m → m < length rows → (j ≡ n) ⊎ (j ≡ n → ⊥)
        → slice_index_or (set flags p true) j false ≡ true
        → slice_index_or (set flags p true) m false ≡ true
    handed m j a b c d (inl y) f =
        let same : m ≡ p = sym c ∙ ap (parent_in rows) y ∙ is_parent in
        ap (λ (x : ℕ). get_or (set flags p true) x false) same ∙ get_or-set_same flags p true false here
    handed m j a b c d (inr y) f =
        still flags p m here (h.handed m j (omega arith) b c d
        (sym (get_or-set_other flags p j true false (λ z. absurd (omega arith))) ∙ f))

pub passed_without : (rows : List NodeRow) (splits : List Bool) (k n : ℕ) (flags : List Bool) → ArePassed rows splits k flags → k ≡ n + 1
    → ((m : ℕ) → parent_in rows n ≡ m → m < length rows → slice_index_or flags n false ≡ true → ⊥) → ArePassed rows splits n flags
passed_without rows splits k n flags h e out = record {
  one_each = h.one_each;
  sound = h.sound;
  kept = h.kept;
  handed = λ m j a b c d f. handed m j a b c d (cases_eq j n) f;
}
  where
    handed : (m j : ℕ) → n ≤ j → j < length rows → parent_in rows j ≡ m → m < length rows → (j ≡ n) ⊎ (j ≡ n → ⊥) → slice_index_or flags j false ≡ true
        → slice_index_or flags m false ≡ true
    handed m j a b c d (inl y) f = absurd (out m (ap (parent_in rows) (sym y) ∙ c) d (ap (λ (x : ℕ). get_or flags x false) (sym y) ∙ f))
    handed m j a b c d (inr y) f = h.handed m j (omega arith) b c d f

pub passed_all : (rows : List NodeRow) (splits : List Bool) (k : ℕ) (flags : List Bool) → ArePassed rows splits k flags → k ≡ 0
    → AreAboveSplits rows splits flags
passed_all rows splits k flags h e = record { one_each = h.one_each; sound = h.sound; complete = complete }
  where
    climb : (m n : ℕ) → n < length rows → slice_index_or flags n false ≡ true → IsAncestor rows m n → slice_index_or flags m false ≡ true
    climb m _ x f (parent n g l) = h.handed m n (omega arith) x g l f
    climb m _ x f (above j n g l rest) = climb m j l (h.handed j n (omega arith) x g l f) rest

    complete : (m : ℕ) → IsAboveSplit rows splits m → slice_index_or flags m false ≡ true
    complete m s = go s.on_way
      where
        go : IsOnWay rows m s.split → slice_index_or flags m false ≡ true
        go (inl f) = ap (λ (x : ℕ). get_or flags x false) (sym f) ∙ h.kept s.split s.is_split
        go (inr a) = climb m s.split s.inside (h.kept s.split s.is_split) a

-- ---- as the code reads it

-- a parent that is none is no row's number
pub none_outside : (rows : List NodeRow) (n m x : ℕ) → length rows ≤ 2147483647 → x ≡ parent_in rows n → x ≡ no_node → parent_in rows n ≡ m → m < length rows → ⊥
none_outside rows n m x few e f g l = absurd (omega arith)
