-- The kinds of step of a flooding, on its state: each keeps what holds between two turns.
use Rattle.std.proofs.Common.{◌≡◌, ℕ, ◌+◌, ◌-◌, ◌<◌, ◌≤◌, List, length, set, get_or, slice_index, ◌∙◌, ◌⊎◌, inl, inr, sym, subst, subst₂, ⊎_elim, arith}
use Rattle.std.proofs.Common.{get_or-set_same, get_or-set_other}
use Rattle.std.proofs.lemmas.Bool.{cases_eq}
use Rattle.std.proofs.lemmas.Grind.{get_or_default_zero}
use Rattle.comp_tree.specs.declared.shape.Connect.{Connect}
use Rattle.comp_tree.specs.declared.shape.Connect.TheVariants.{Four, Eight}
use Rattle.comp_tree.specs.Joined.{Joined, here, Or}
use Rattle.strip_flood.specs.Joining.{Both, With, IsSound, IsComplete}
use Rattle.comp_tree.specs.Grid.{IsInner}
use Rattle.strip_flood.specs.Flood.{Ground, direction_count, direction, IsOf, cursor_of, IsInQueue, WasLookedAt}
use Rattle.comp_tree.proofs.Exported.{joined_sym, joined_within, joined_first, joined_second}

-- from p, one look in direction k at a neighbour with a value, or none where there is no such neighbour
pub record IsAround (g : Ground) (p k old new : ℕ) : Type 0 where
  pub is : ((new ≡ old) × ((n : ℕ) → IsInner g.values g.width g.connect g.first (length g.ranks) p n → direction g.connect g.width p n ≡ k → ⊥))
      ⊎ ((new ≡ old + 1) × ((n : ℕ) × (IsInner g.values g.width g.connect g.first (length g.ranks) p n × (direction g.connect g.width p n ≡ k))))

-- what p has in direction k was seen
pub record IsSeen (g : Ground) (cursors : List ℕ) (p k : ℕ) : Type 0 where
  pub seen : (y : ℕ) → IsInner g.values g.width g.connect g.first (length g.ranks) p y → direction g.connect g.width p y ≡ k → 0 < cursor_of g cursors y

-- what a read at a place gave
pub item_read : (xs : List ℕ) (i v : ℕ) → i < length xs → v ≡ get_or xs i v → slice_index xs i ≡ v
item_read xs i v l e = sym (get_or_default_zero xs i v l) ∙ sym e

pub cursor_read : (g : Ground) (cursors : List ℕ) → length cursors ≡ length g.ranks → (p v : ℕ) → IsOf g p → v ≡ get_or cursors (p - g.first) v
    → cursor_of g cursors p ≡ v
cursor_read g cursors long p v w e = item_read cursors (p - g.first) v (let a : g.first ≤ p = w.low in let b : p < g.first + length g.ranks =
    w.high in omega arith) e

-- fewer links and fewer open pixels are still joined
pub sound_fewer : (High : ℕ → Type 0) (Adj L M : ℕ → ℕ → Type 0) (Open Later : ℕ → Type 0)
    → ((x y : ℕ) → M x y → L x y) → ((x : ℕ) → Later x → Open x) → IsSound High Adj L Open → IsSound High Adj M Later
sound_fewer High Adj L M Open Later ml lo s = record {
  links = λ x y hx hy m. s.links x y hx hy (ml x y m);
  opens = λ x y hx hy ox oy. s.opens x y hx hy (lo x ox) (lo y oy);
}

-- what more links and more open pixels join
pub complete_more : (High : ℕ → Type 0) (A B L M : ℕ → ℕ → Type 0) (Open Later : ℕ → Type 0)
    → ((x y : ℕ) → B x y → A x y) → ((x y : ℕ) → L x y → M x y) → ((x : ℕ) → Open x → Later x) → IsComplete High A L Open → IsComplete High B M Later
complete_more High A B L M Open Later ba lm ol c = record { looked = λ x y hx hy b. joined_within more (c.looked x y hx hy (ba x y b)) } where
  more : (u v : ℕ) → High u → High v → Or L (Both Open) u v → Joined High (Or M (Both Later)) u v
  more u v hu hv (inl l) = joined_first M (Both Later) u v hu hv (lm u v l)
  more u v hu hv (inr o) = joined_second M (Both Later) u v hu hv (ol u o.0, ol v o.1)

-- n is open too: it is joined to each open pixel
pub add_sound : (High : ℕ → Type 0) (Adj L : ℕ → ℕ → Type 0) (Open : ℕ → Type 0) (n : ℕ)
    → ((x : ℕ) → High x → High n → Open x → Joined High Adj x n) → IsSound High Adj L Open → IsSound High Adj L (With Open n)
add_sound High Adj L Open n to_new s = record { links = s.links; opens = opens } where
  opens : (x y : ℕ) → High x → High y → With Open n x → With Open n y → Joined High Adj x y
  opens x y hx hy (inl ox) (inl oy) = s.opens x y hx hy ox oy
  opens x y hx hy (inl ox) (inr ey) = subst (λ v. Joined High Adj x v) (sym ey) (to_new x hx (subst High ey hy) ox)
  opens x y hx hy (inr ex) (inl oy) = joined_sym (subst (λ v. Joined High Adj y v) (sym ex) (to_new y hy (subst High ex hx) oy))
  opens x y hx hy (inr ex) (inr ey) = subst₂ (λ u v. Joined High Adj u v) (sym ex) (sym ey) (here (subst High ex hx))

pub ends_small : (c : Connect) → direction_count c ≤ 8
ends_small Four = omega arith
ends_small Eight = omega arith

-- One cursor changes.
module _ (g : Ground) (cursors : List ℕ) (long : length cursors ≡ length g.ranks) (p v : ℕ) (inside : IsOf g p) where
  pub cursor_new : cursor_of g (set cursors (p - g.first) v) p ≡ v
  cursor_new = get_or-set_same cursors (p - g.first) v 0 (let a : g.first ≤ p = inside.low in let b : p < g.first + length g.ranks = inside.high in omega arith)

  pub cursor_old : (x : ℕ) → IsOf g x → (x ≡ p → ⊥) → cursor_of g (set cursors (p - g.first) v) x ≡ cursor_of g cursors x
  cursor_old x w ne = get_or-set_other cursors (p - g.first) (x - g.first) v 0
      (λ e. ne (let a : g.first ≤ p = inside.low in let b : g.first ≤ x = w.low in omega arith))

  -- a fact on each pixel's cursor
  pub cursor_each : (P : ℕ → ℕ → Type 0) → P p v → ((x : ℕ) → IsOf g x → (x ≡ p → ⊥) → P x (cursor_of g cursors x)) → (x : ℕ) → IsOf g x
      → P x (cursor_of g (set cursors (p - g.first) v) x)
  cursor_each P new old x w = ⊎_elim
      (λ (e : x ≡ p). subst (λ y. P y (cursor_of g (set cursors (p - g.first) v) y)) (sym e) (subst (λ c. P p c) (sym cursor_new) new))
      (λ (ne : x ≡ p → ⊥). subst (λ c. P x c) (sym (cursor_old x w ne)) (old x w ne))
      (cases_eq x p)

  -- the new cursor is the one of a queued pixel
  pub queued_new : 0 < v → v < 10 → IsInQueue g (set cursors (p - g.first) v) p
  queued_new l h = record { inside = inside; low = subst (λ c. 0 < c) (sym cursor_new) l; high = subst (λ c. c < 10) (sym cursor_new) h }

  pub queued_old : (x : ℕ) → (x ≡ p → ⊥) → IsInQueue g cursors x → IsInQueue g (set cursors (p - g.first) v) x
  queued_old x ne q = record {
    inside = q.inside;
    low = subst (λ c. 0 < c) (sym (cursor_old x q.inside ne)) q.low;
    high =
        subst (λ c. c < 10) (sym (cursor_old x q.inside ne)) q.high;
  }

  pub queued_back : (x : ℕ) → (x ≡ p → ⊥) → IsInQueue g (set cursors (p - g.first) v) x → IsInQueue g cursors x
  queued_back x ne q = record {
    inside = q.inside;
    low = subst (λ c. 0 < c) (cursor_old x q.inside ne) q.low;
    high =
        subst (λ c. c < 10) (cursor_old x q.inside ne) q.high;
  }

  pub queued_cases : (x : ℕ) → IsInQueue g (set cursors (p - g.first) v) x → ((x ≡ p → ⊥) × IsInQueue g cursors x) ⊎ (x ≡ p)
  queued_cases x q = ⊎_elim (λ (e : x ≡ p). inr e) (λ (ne : x ≡ p → ⊥). inl (ne, queued_back x ne q)) (cases_eq x p)

  -- a finished pixel's cursor is 10
  not_queued : v ≡ 10 → IsInQueue g (set cursors (p - g.first) v) p → ⊥
  not_queued e q = let h : cursor_of g (set cursors (p - g.first) v) p < 10 = q.high in let n : cursor_of g (set cursors (p - g.first) v) p ≡ v =
      cursor_new in omega arith

  pub queued_done : v ≡ 10 → (x : ℕ) → IsInQueue g (set cursors (p - g.first) v) x → (x ≡ p → ⊥) × IsInQueue g cursors x
  queued_done e x q = ⊎_elim
      (λ (ex : x ≡ p). absurd (not_queued e (subst (λ y. IsInQueue g (set cursors (p - g.first) v) y) ex q)))
      (λ (ne : x ≡ p → ⊥). (ne, queued_back x ne q)) (cases_eq x p)

  -- what was looked at, where the cursor of p did not pass a neighbour
  pub looked_cases : (x y : ℕ) → WasLookedAt g (set cursors (p - g.first) v) x y
      → WasLookedAt g cursors x y ⊎ ((x ≡ p) × (IsInner g.values g.width g.connect g.first (length g.ranks) p y × (direction g.connect g.width p y + 1 < v)))
  looked_cases x y l = ⊎_elim
      (λ (e : x ≡ p). inr (
        e,
        (
          subst (λ z. IsInner g.values g.width g.connect g.first (length g.ranks) z y) e l.inner,
          subst (λ c. direction g.connect g.width p y + 1 < c) cursor_new
              (subst (λ z. direction g.connect g.width z y + 1 < cursor_of g (set cursors (p - g.first) v) z) e l.turned),
        ),
      ))
      (λ (ne : x ≡ p → ⊥).
      inl (record { inner = l.inner; turned = subst (λ c. direction g.connect g.width x y + 1 < c) (cursor_old x l.inner.one ne) l.turned }))
      (cases_eq x p)
