-- Which pixels are canonical, by the links as the code reads them, and the list of these pixels.
use Rattle.std.proofs.Common.{◌≡◌, ◌≢◌, ℕ, zero, suc, ◌+◌, ◌-◌, ◌<◌, Bool, true, false, cond, ◌&&◌, ◌||◌, not, List, [], ◌∷◌, ◌++◌, length, get_or, refl, sym, ◌≤◌}
use Rattle.std.proofs.Common.{ap, ◌∙◌, subst, inl, inr, ◌⊎◌, arith, append_assoc}
use Rattle.std.specs.Prelude.{IsTrue, IsFalse, ◌==◌, ℤ, Option, None, is_some, filter}
use Rattle.std.specs.List.{range_with_len}
use Rattle.std.proofs.lemmas.Bool.{true≢false, eq-eqb}
use Rattle.std.proofs.lemmas.List.{get_or_default, append-nil}
use Rattle.comp_tree.specs.Raster.{Raster, HasGap, value_at, is_defined, is_at_least, level, pixels}
use Rattle.comp_tree.specs.Forest.{no_node, LiesInStretch, ComesEarlier, link_of, IsForest}
use Rattle.comp_tree.proofs.Exported.{before_defined}
use Rattle.tree_canon.specs.Canonical.{is_canonical, canonical_between}

-- a link, as the code reads it
pub read_link : (links : List ℕ) (p : ℕ) → p < length links → get_or links p 0 ≡ link_of 0 links p
read_link links p lt = get_or_default links p 0 no_node lt ∙ ap (λ k. get_or links k no_node) (let e : p ≡ p - 0 = omega arith in e)

-- what is known of a link that isn't none
pub record IsPixelLink (r : Raster) (links : List ℕ) (p : ℕ) : Type 0 where
  pub below : link_of 0 links p < length links
  pub earlier : ComesEarlier r.values (link_of 0 links p) p
  pub defined : IsTrue (is_defined r p)
  pub link_defined : IsTrue (is_defined r (link_of 0 links p))

pub pixel_link : (r : Raster) (links : List ℕ) (p : ℕ) → IsForest r.values 0 links → p < length links → link_of 0 links p ≢ no_node → IsPixelLink r links p
pixel_link r links p forest lt some = on (forest.earlier p (record { low = omega arith; high = omega arith }))
  where
    on : (link_of 0 links p ≡ no_node) ⊎ (LiesInStretch 0 (length links) (link_of 0 links p) × ComesEarlier r.values (link_of 0 links p) p) → IsPixelLink r links p
    on (inl e) = absurd (some e)
    on (inr k) =
        let d = before_defined (value_at r.values (link_of 0 links p)) (value_at r.values p) (link_of 0 links p) p k.1 in
        record { below = omega (arith, k.0.high); earlier = k.1; defined = d.1; link_defined = d.0 }

and_true : (b : Bool) → b && true ≡ b
and_true true = refl
and_true false = refl

-- a pixel whose link is none
pub canonical-none : (r : Raster) (links : List ℕ) (p : ℕ) → link_of 0 links p ≡ no_node → is_defined r p ≡ is_canonical r links p
unfolding is_canonical
canonical-none r links p none =
    sym (ap (λ (b : Bool). is_defined r p && (b || not (is_at_least r (level r p) (link_of 0 links p)))) (eq-eqb (link_of 0 links p) no_node none)
    ∙ and_true (is_defined r p))

not_equal : (a b : ℕ) → a ≢ b → a == b ≡ false
not_equal a b ne = grind arith

-- and one whose link is a pixel
pub canonical-some : (r : Raster) (links : List ℕ) (p : ℕ) → IsTrue (is_defined r p) → link_of 0 links p ≢ no_node
    → not (is_at_least r (level r p) (link_of 0 links p)) ≡ is_canonical r links p
unfolding is_canonical
canonical-some r links p d some =
    sym (ap (λ (b : Bool). b && (link_of 0 links p == no_node || not (is_at_least r (level r p) (link_of 0 links p)))) d
    ∙ ap (λ (b : Bool). b || not (is_at_least r (level r p) (link_of 0 links p))) (not_equal (link_of 0 links p) no_node some))

-- the link of a defined pixel that isn't canonical is no lower
pub link_high : (r : Raster) (links : List ℕ) (p : ℕ) → IsTrue (is_defined r p) → link_of 0 links p ≢ no_node → IsFalse (is_canonical r links p)
    → IsTrue (is_at_least r (level r p) (link_of 0 links p))
link_high r links p d some low = on (is_at_least r (level r p) (link_of 0 links p)) (canonical-some r links p d some ∙ low)
  where
    on : (b : Bool) → not b ≡ false → b ≡ true
    on true e = refl
    on false e = absurd (true≢false e)

-- ---- the list, as it grows

filter-one : (t : ℕ → Bool) (a n : ℕ) → filter t (range_with_len a (suc n)) ≡ filter t (range_with_len a n) ++ filter t ((a + n) ∷ [])
filter-one t a zero = ap (λ k. filter t (k ∷ [])) (let e : a ≡ a + 0 = omega arith in e)
filter-one t a (suc n) = on (t a) (filter-one t (a + 1) n) where
  next : a + 1 + n ≡ a + suc n
  next = omega arith

  on : (b : Bool) → filter t (range_with_len (a + 1) (suc n)) ≡ filter t (range_with_len (a + 1) n) ++ filter t ((a + 1 + n) ∷ [])
      → cond b (a ∷ filter t (range_with_len (a + 1) (suc n))) (filter t (range_with_len (a + 1) (suc n)))
      ≡ cond b (a ∷ filter t (range_with_len (a + 1) n)) (filter t (range_with_len (a + 1) n)) ++ filter t ((a + suc n) ∷ [])
  on true ih = ap (λ xs. a ∷ xs) (ih ∙ ap (λ k. filter t (range_with_len (a + 1) n) ++ filter t (k ∷ [])) next)
  on false ih = ih ∙ ap (λ k. filter t (range_with_len (a + 1) n) ++ filter t (k ∷ [])) next

-- the canonical pixels from a up to n, as n grows
between_none : (r : Raster) (links : List ℕ) (a : ℕ) → canonical_between r links a a ≡ []
between_none r links a = ap (λ n. filter (is_canonical r links) (range_with_len a n)) (let e : a - a ≡ 0 = omega arith in e)

between_one : (r : Raster) (links : List ℕ) (a n : ℕ) → a ≤ n
    → canonical_between r links a (n + 1) ≡ canonical_between r links a n ++ filter (is_canonical r links) (n ∷ [])
between_one r links a n le =
    ap (λ k. filter (is_canonical r links) (range_with_len a k)) (let e : n + 1 - a ≡ suc (n - a) = omega (arith, le) in e)
    ∙ filter-one (is_canonical r links) a (n - a) ∙ ap (λ k. canonical_between r links a n ++ filter (is_canonical r links) (k ∷ []))
    (let e : a + (n - a) ≡ n = omega (arith, le) in e)

pub between-first : (r : Raster) (links : List ℕ) (a : ℕ) (xs : List ℕ) → xs ≡ [] → xs ≡ canonical_between r links a a
between-first r links a xs e = e ∙ sym (between_none r links a)

pub between-yes : (r : Raster) (links : List ℕ) (a n : ℕ) (xs : List ℕ) → a ≤ n → xs ≡ canonical_between r links a n → is_canonical r links n ≡ true
    → xs ++ n ∷ [] ≡ canonical_between r links a (n + 1)
between-yes r links a n xs le e is =
    ap (λ ys. ys ++ n ∷ []) e
    ∙ sym (between_one r links a n le ∙ ap (λ (b : Bool). canonical_between r links a n ++ cond b (n ∷ []) []) is)

pub between-no : (r : Raster) (links : List ℕ) (a n : ℕ) (xs : List ℕ) → a ≤ n → xs ≡ canonical_between r links a n → is_canonical r links n ≡ false
    → xs ≡ canonical_between r links a (n + 1)
between-no r links a n xs le e not_so =
    e ∙ sym (between_one r links a n le ∙ ap (λ (b : Bool). canonical_between r links a n ++ cond b (n ∷ []) []) not_so
    ∙ append-nil (canonical_between r links a n))

-- an undefined pixel is not canonical
not_canonical : (r : Raster) (links : List ℕ) (p : ℕ) → value_at r.values p ≡ None → is_canonical r links p ≡ false
unfolding is_canonical
not_canonical r links p e =
    ap (λ (o : Option ℤ). is_some o && (link_of 0 links p == no_node || not (is_at_least r (level r p) (link_of 0 links p)))) e

-- pixels without a value add nothing
between_over : (r : Raster) (links : List ℕ) (a k n : ℕ) (xs : List ℕ) → a ≤ n → HasGap r.values n (n + k) → xs ≡ canonical_between r links a n
    → xs ≡ canonical_between r links a (n + k)
between_over r links a zero n xs le gap e = e ∙ ap (canonical_between r links a) (let same : n ≡ n + 0 = omega arith in same)
between_over r links a (suc k) n xs le gap e =
    between_over r links a k (n + 1) xs (omega (arith, le)) (λ p low below. gap p (omega (arith, low)) (omega (arith, below)))
    (between-no r links a n xs le e (not_canonical r links n (gap n (omega arith) (omega arith))))
    ∙ ap (canonical_between r links a) (let same : n + 1 + k ≡ n + suc k = omega arith in same)

pub between-gap : (r : Raster) (links : List ℕ) (a n m : ℕ) (xs : List ℕ) → a ≤ n → n ≤ m → HasGap r.values n m → xs ≡ canonical_between r links a n
    → xs ≡ canonical_between r links a m
between-gap r links a n m xs le more gap e =
    let end : n + (m - n) ≡ m = omega (arith, more) in
    between_over r links a (m - n) n xs le (λ p low below. gap p low (omega (arith, below, end))) e ∙ ap (canonical_between r links a) end

pub between-all : (r : Raster) (links : List ℕ) (n : ℕ) (xs : List ℕ) → n ≡ length r.values → xs ≡ canonical_between r links 0 n
    → xs ≡ filter (is_canonical r links) (pixels r)
unfolding pixels
between-all r links n xs all e =
    e ∙ ap (λ k. filter (is_canonical r links) (range_with_len 0 k)) (let same : n - 0 ≡ length r.values = omega (arith, all) in same)

-- two stretches of pixels, one behind the other
both_by : (r : Raster) (links : List ℕ) (a b k : ℕ) → a ≤ b
    → canonical_between r links a b ++ canonical_between r links b (b + k) ≡ canonical_between r links a (b + k)
both_by r links a b zero le =
    ap (λ n. canonical_between r links a b ++ canonical_between r links b n) (let e : b + 0 ≡ b = omega arith in e)
    ∙ (ap (λ xs. canonical_between r links a b ++ xs) (between_none r links b)
    ∙ (append-nil (canonical_between r links a b) ∙ ap (canonical_between r links a) (let e : b ≡ b + 0 = omega arith in e)))
both_by r links a b (suc k) le =
    let next : b + suc k ≡ b + k + 1 = omega arith in
    ap (λ n. canonical_between r links a b ++ canonical_between r links b n) next
    ∙ (ap (λ xs. canonical_between r links a b ++ xs) (between_one r links b (b + k) (omega arith))
    ∙ (sym (append_assoc (canonical_between r links a b) (canonical_between r links b (b + k)) (filter (is_canonical r links) ((b + k) ∷ [])))
    ∙ (ap (λ xs. xs ++ filter (is_canonical r links) ((b + k) ∷ [])) (both_by r links a b k le)
    ∙ (sym (between_one r links a (b + k) (omega (arith, le))) ∙ ap (canonical_between r links a) (sym next)))))

pub between-both : (r : Raster) (links : List ℕ) (a b c : ℕ) → a ≤ b → b ≤ c
    → canonical_between r links a b ++ canonical_between r links b c ≡ canonical_between r links a c
between-both r links a b c le more =
    subst (λ n. canonical_between r links a b ++ canonical_between r links b n ≡ canonical_between r links a n)
    (let e : b + (c - b) ≡ c = omega (arith, more) in e) (both_by r links a b (c - b) le)
