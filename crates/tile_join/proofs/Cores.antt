-- Marks on the pixels of cores: those of one frame, and those of the first tiles.
use Rattle.std.proofs.Common.{zero, suc, true, false, ◌≡◌, ℕ, ◌+◌, ◌*◌, ◌<◌, ◌≤◌, ◌⊎◌, inl, inr, List, length, get_or, set, refl, sym, ◌∙◌, ap, subst, arith, get_or-set_same, get_or-set_other}
use Rattle.std.specs.Prelude.{IsTrue, Some, slice_get}
use Rattle.std.proofs.lemmas.Bool.{cases_eq, cases_Bool}
use Rattle.std.proofs.lemmas.Option.{same_Some, slice_get_within}
use Rattle.comp_tree.specs.declared.shape.Shape.{Shape}
use Rattle.comp_tree.specs.Windows.{IsInside, in_whole}
use Rattle.comp_tree.proofs.Exported.{in_whole-one}
use Rattle.tile_join.specs.declared.tiles.Frame.{Frame}
use Rattle.tile_join.specs.declared.tiles.TileCatalogue.{TileCatalogue}
use Rattle.tile_join.specs.declared.fault.JoinFault.TheVariants.{CoresOverlap, CoreGap}
use Rattle.tile_join.specs.Tiles.{window_of, is_in_frame, IsOfEarlierCore, HasJoinFault}
use Rattle.tile_join.specs.Marks.{AreFirstMarked, IsFrameMarked, HasMark, AreCoresMarked, AreCoresApart, AreCoresCovering}
use Rattle.tile_join.proofs.Frames.{IsPixelOf, pixel_of, pixel_in_frame}

-- ---- one frame

pub marked_none : (width : ℕ) (f : Frame) (old : List ℕ) → AreFirstMarked width f 0 old old
marked_none width f old = record {
  free = λ q l. absurd (omega arith);
  set = λ q l. absurd (omega arith);
  kept = λ p h. h;
  listed = λ p h. inl h;
}

zero_from : (a b : ℕ) → (0 < a → 0 < b) → b ≡ 0 → a ≡ 0
zero_from zero b h e = refl
zero_from (suc a) b h e = let k : 0 < b = h (omega arith) in absurd (omega arith)

-- a mark that is set leaves the others
mark_kept : (marks : List ℕ) (p j : ℕ) → p < length marks → 0 < get_or marks j 0 → 0 < get_or (set marks p 1) j 0
mark_kept marks p j l h = go (cases_eq j p)
  where
    go : (j ≡ p) ⊎ (j ≡ p → ⊥) → 0 < get_or (set marks p 1) j 0
    go (inl e) = let k : get_or (set marks p 1) p 0 ≡ 1 = get_or-set_same marks p 1 0 l in rw (e, k) (omega arith)
    go (inr n) = let k : get_or (set marks p 1) j 0 ≡ get_or marks j 0 = get_or-set_other marks p j 1 0 n in rw k h

pub marked_more : (whole : Shape) (f : Frame) (q p : ℕ) (old marks : List ℕ) → AreFirstMarked whole.width f q old marks
    → p ≡ in_whole whole.width (window_of f) q → p < length marks → get_or marks p 0 ≡ 0 → AreFirstMarked whole.width f (q + 1) old (set marks p 1)
marked_more whole f q p old marks h e l z = record { free = free; set = marked; kept = λ j k. mark_kept marks p j l (h.kept j k); listed = listed }
  where
    one : get_or (set marks p 1) p 0 ≡ 1
    one = get_or-set_same marks p 1 0 l

    free : (k : ℕ) → k < q + 1 → get_or old (in_whole whole.width (window_of f) k) 0 ≡ 0
    free k b = go (cases_eq k q)
      where
        go : (k ≡ q) ⊎ (k ≡ q → ⊥) → get_or old (in_whole whole.width (window_of f) k) 0 ≡ 0
        go (inl d) =
            let n : get_or old p 0 ≡ 0 = zero_from (get_or old p 0) (get_or marks p 0) (h.kept p) z in
            ap (λ (x : ℕ). get_or old (in_whole whole.width (window_of f) x) 0) d ∙ ap (λ (x : ℕ). get_or old x 0) (sym e) ∙ n
        go (inr d) = h.free k (omega arith)

    marked : (k : ℕ) → k < q + 1 → 0 < get_or (set marks p 1) (in_whole whole.width (window_of f) k) 0
    marked k b = go (cases_eq k q)
      where
        go : (k ≡ q) ⊎ (k ≡ q → ⊥) → 0 < get_or (set marks p 1) (in_whole whole.width (window_of f) k) 0
        go (inl d) = subst (λ (x : ℕ). 0 < get_or (set marks p 1) x 0) (e ∙ ap (λ (x : ℕ). in_whole whole.width (window_of f) x) (sym d)) (omega (arith, one))
        go (inr d) = mark_kept marks p (in_whole whole.width (window_of f) k) l (h.set k (omega arith))

    listed : (j : ℕ) → 0 < get_or (set marks p 1) j 0 → (0 < get_or old j 0) ⊎ ((k : ℕ) × (k < q + 1) × (in_whole whole.width (window_of f) k ≡ j))
    listed j m = go (cases_eq j p)
      where
        more : (0 < get_or old j 0) ⊎ ((k : ℕ) × (k < q) × (in_whole whole.width (window_of f) k ≡ j))
            → (0 < get_or old j 0) ⊎ ((k : ℕ) × (k < q + 1) × (in_whole whole.width (window_of f) k ≡ j))
        more (inl x) = inl x
        more (inr x) = let b : x.0 < q = x.1 in inr (x.0, omega arith, x.2)

        go : (j ≡ p) ⊎ (j ≡ p → ⊥) → (0 < get_or old j 0) ⊎ ((k : ℕ) × (k < q + 1) × (in_whole whole.width (window_of f) k ≡ j))
        go (inl d) = inr (q, omega arith, sym (d ∙ e))
        go (inr n) = more (h.listed j (let x : get_or (set marks p 1) j 0 ≡ get_or marks j 0 = get_or-set_other marks p j 1 0 n in omega arith))

-- a pixel of the frame that has a mark before it gets one had it from the beginning
pub marked_met : (whole : Shape) (f : Frame) (q p : ℕ) (old marks : List ℕ) → IsInside whole (window_of f) → q < f.shape.width * f.shape.height
    → AreFirstMarked whole.width f q old marks → p ≡ in_whole whole.width (window_of f) q → (get_or marks p 0 ≡ 0 → ⊥) → HasMark whole.width f old
marked_met whole f q p old marks i b h e n = go (h.listed p (omega arith))
  where
    go : (0 < get_or old p 0) ⊎ ((k : ℕ) × (k < q) × (in_whole whole.width (window_of f) k ≡ p)) → HasMark whole.width f old
    go (inl x) = (p, subst (λ (m : ℕ). IsTrue (is_in_frame whole.width f m)) (sym e) (pixel_in_frame whole f q i b), x)
    go (inr x) = let d : x.0 ≡ q = in_whole-one whole (window_of f) x.0 q i (x.2 ∙ e) in let c : x.0 < q = x.1 in absurd (omega arith)

pub marked_all : (whole : Shape) (f : Frame) (count : ℕ) (old marks : List ℕ) → IsInside whole (window_of f) → f.shape.width * f.shape.height ≡ count
    → AreFirstMarked whole.width f count old marks → IsFrameMarked whole.width f old marks
marked_all whole f count old marks i e h = record { free = free; set = marked; kept = h.kept; listed = λ p m. go p (h.listed p m) }
  where
    free : (p : ℕ) → IsTrue (is_in_frame whole.width f p) → get_or old p 0 ≡ 0
    free p k =
        let s : IsPixelOf whole.width f p = pixel_of whole f p k in
        subst (λ (x : ℕ). get_or old x 0 ≡ 0) s.place (h.free s.it (subst (λ (n : ℕ). s.it < n) e s.below))

    marked : (p : ℕ) → IsTrue (is_in_frame whole.width f p) → 0 < get_or marks p 0
    marked p k =
        let s : IsPixelOf whole.width f p = pixel_of whole f p k in
        subst (λ (x : ℕ). 0 < get_or marks x 0) s.place (h.set s.it (subst (λ (n : ℕ). s.it < n) e s.below))

    go : (p : ℕ) → (0 < get_or old p 0) ⊎ ((q : ℕ) × (q < count) × (in_whole whole.width (window_of f) q ≡ p))
        → (0 < get_or old p 0) ⊎ IsTrue (is_in_frame whole.width f p)
    go p (inl x) = inl x
    go p (inr x) =
        inr (subst (λ (m : ℕ). IsTrue (is_in_frame whole.width f m)) x.2
        (pixel_in_frame whole f x.0 i (subst (λ (n : ℕ). x.0 < n) (sym e) x.1)))

-- ---- the cores of the first tiles

pub cores_none : (width : ℕ) (tiles : List TileCatalogue) (marks : List ℕ) → ((p : ℕ) → get_or marks p 0 ≡ 0) → AreCoresMarked width tiles 0 marks
cores_none width tiles marks z = record {
  apart = λ p i j t u l. absurd (omega arith);
  set = λ p i t l. absurd (omega arith);
  held = λ p h. let e : get_or marks p 0 ≡ 0 = z p in absurd (omega arith);
}

pub cores_more : (width : ℕ) (tiles : List TileCatalogue) (count : ℕ) (t : TileCatalogue) (old new : List ℕ) → AreCoresMarked width tiles count old
    → slice_get tiles count ≡ Some t → IsFrameMarked width t.core old new → AreCoresMarked width tiles (count + 1) new
cores_more width tiles count t old new h at m = record { apart = apart; set = marked; held = held }
  where
    -- the tile at this place is t
    is_it : (i : ℕ) (u : TileCatalogue) → slice_get tiles i ≡ Some u → i ≡ count → u ≡ t
    is_it i u g e = same_Some u t (sym g ∙ ap (λ (n : ℕ). slice_get tiles n) e ∙ at)

    it_has : (p i : ℕ) (u : TileCatalogue) → slice_get tiles i ≡ Some u → i ≡ count → IsTrue (is_in_frame width u.core p) → IsTrue (is_in_frame width t.core p)
    it_has p i u g e k = subst (λ (x : TileCatalogue). IsTrue (is_in_frame width x.core p)) (is_it i u g e) k

    apart : (p i j : ℕ) (u v : TileCatalogue) → i < count + 1 → j < count + 1 → slice_get tiles i ≡ Some u → slice_get tiles j ≡ Some v
        → IsTrue (is_in_frame width u.core p) → IsTrue (is_in_frame width v.core p) → i ≡ j
    apart p i j u v l n d e a b = go (cases_eq i count) (cases_eq j count)
      where
        go : (i ≡ count) ⊎ (i ≡ count → ⊥) → (j ≡ count) ⊎ (j ≡ count → ⊥) → i ≡ j
        go (inl x) (inl y) = x ∙ sym y
        go (inl x) (inr y) =
            let k : get_or old p 0 ≡ 0 = m.free p (it_has p i u d x a) in
            let o : 0 < get_or old p 0 = h.set p j v (omega arith) e b in
            absurd (omega arith)
        go (inr x) (inl y) =
            let k : get_or old p 0 ≡ 0 = m.free p (it_has p j v e y b) in
            let o : 0 < get_or old p 0 = h.set p i u (omega arith) d a in
            absurd (omega arith)
        go (inr x) (inr y) = h.apart p i j u v (omega arith) (omega arith) d e a b

    marked : (p i : ℕ) (u : TileCatalogue) → i < count + 1 → slice_get tiles i ≡ Some u → IsTrue (is_in_frame width u.core p) → 0 < get_or new p 0
    marked p i u l d a = go (cases_eq i count)
      where
        go : (i ≡ count) ⊎ (i ≡ count → ⊥) → 0 < get_or new p 0
        go (inl x) = m.set p (it_has p i u d x a)
        go (inr x) = m.kept p (h.set p i u (omega arith) d a)

    held : (p : ℕ) → 0 < get_or new p 0 → IsOfEarlierCore width tiles (count + 1) p
    held p k = go (m.listed p k)
      where
        go : (0 < get_or old p 0) ⊎ IsTrue (is_in_frame width t.core p) → IsOfEarlierCore width tiles (count + 1) p
        go (inl x) = let c : IsOfEarlierCore width tiles count p = h.held p x in let l : c.0 < count = c.1 in (c.0, omega arith, c.2)
        go (inr x) = (count, omega arith, (t, at, x))

-- a core with a pixel of an earlier one
pub overlap_from_mark : (whole : Shape) (tiles : List TileCatalogue) (i : ℕ) (t : TileCatalogue) (marks : List ℕ) → AreCoresMarked whole.width tiles i marks
    → slice_get tiles i ≡ Some t → HasMark whole.width t.core marks → HasJoinFault whole tiles (CoresOverlap i)
overlap_from_mark whole tiles i t marks h at m = (t, at, (m.0, m.1, h.held m.0 m.2))

-- ---- when all cores are marked

pub cores_apart : (whole : Shape) (tiles : List TileCatalogue) (marks : List ℕ) → AreCoresMarked whole.width tiles (length tiles) marks
    → AreCoresApart whole tiles
cores_apart whole tiles marks h = λ p i j t u d e. h.apart p i j t u (slice_get_within tiles i t d) (slice_get_within tiles j u e) d e

pub cores_covering : (whole : Shape) (tiles : List TileCatalogue) (marks : List ℕ) → AreCoresMarked whole.width tiles (length tiles) marks
    → length marks ≡ whole.width * whole.height → ((p : ℕ) → p < length marks → 0 < get_or marks p 0) → AreCoresCovering whole tiles
cores_covering whole tiles marks h e all = λ p l.
    let k : IsOfEarlierCore whole.width tiles (length tiles) p = h.held p (all p (omega arith)) in (k.0, k.2)

pub gap_from_mark : (whole : Shape) (tiles : List TileCatalogue) (marks : List ℕ) (p : ℕ) → AreCoresMarked whole.width tiles (length tiles) marks
    → length marks ≡ whole.width * whole.height → p < length marks → get_or marks p 0 ≡ 0 → HasJoinFault whole tiles (CoreGap p)
gap_from_mark whole tiles marks p h e l z = (omega arith, λ i t d. go t i d (cases_Bool (is_in_frame whole.width t.core p)))
  where
    go : (t : TileCatalogue) (i : ℕ) → slice_get tiles i ≡ Some t
        → (is_in_frame whole.width t.core p ≡ true) ⊎ (is_in_frame whole.width t.core p ≡ false) → is_in_frame whole.width t.core p ≡ false
    go t i d (inr n) = n
    go t i d (inl k) = let m : 0 < get_or marks p 0 = h.set p i t (slice_get_within tiles i t d) d k in absurd (omega arith)

pub cores_up_to : (width : ℕ) (tiles : List TileCatalogue) (count : ℕ) (marks : List ℕ) → AreCoresMarked width tiles count marks → length tiles ≤ count
    → AreCoresMarked width tiles (length tiles) marks
cores_up_to width tiles count marks h l = record {
  apart = λ p i j t u a b d e. h.apart p i j t u (omega arith) (omega arith) d e;
  set = λ p i t a d. h.set p i t (omega arith) d;
  held = λ p m. let k : IsOfEarlierCore width tiles count p = h.held p m in (k.0, slice_get_within tiles k.0 k.2.0 k.2.1, k.2);
}
