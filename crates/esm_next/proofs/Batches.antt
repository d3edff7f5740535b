-- What is decided of the batch is what the rules say of it.
use Rattle.std.proofs.Common.{◌≡◌, ℕ, zero, suc, ◌+◌, ◌<◌, ◌≤◌, Bool, true, false, List, [], ◌∷◌, length, take, map, refl, sym, ap, ◌∙◌, subst, inl, inr, Option, Some, None, arith}
use Rattle.std.specs.Prelude.{nat_le, min, slice_index, is_some}
use Rattle.std.proofs.Math.Nat.{min-eq_left, min-eq_right}
use Rattle.std.proofs.lemmas.Bool.{cases_Bool, leb-true, leb-false}
use Rattle.std.proofs.lemmas.List.{take_all}
use Rattle.esm_model.specs.declared.limits.TheConstants.{MAX_EVENT}
use Rattle.esm_model.specs.declared.lane.LaneId.{LaneId}
use Rattle.esm_model.specs.declared.book.Job.{Job}
use Rattle.esm_model.specs.declared.book.Next.TheVariants as next
use Rattle.esm_model.specs.declared.entry.Entry.{Entry}
use Rattle.esm_model.specs.declared.event.WindowCall.{WindowCall}
use Rattle.esm_model.specs.Setting.{Setting, record_at}
use Rattle.esm_model.specs.Tries.{is_fresh}
use Rattle.esm_model.specs.Calls.{window_call}
use Rattle.esm_model.specs.Batches.{is_expired}
use Rattle.esm_model.specs.Step.{Legal}
use Rattle.esm_next.specs.declared.piece.Why.{Why}
use Rattle.esm_next.specs.Cuts.{IsLongestPrefix, why_of, CanBegin}
use Rattle.esm_next.specs.Following.{job_of, next_batch}
use Rattle.esm_next.specs.Gathering.{piece_of, call_in, window_in, frame_of, limits_of, IsFrontOf, wait_of}
use Rattle.esm_next.proofs.Bounds.{came_stands, call_first, FitsAlone}
use Rattle.esm_next.proofs.Fronts.{covered_group}
use Rattle.esm_next.proofs.Cuts.{IsCutOf, expired_is, batch_waits, batch_goes}

-- at most so many of them

pub take_min : (k : ℕ) (xs : List ℕ) → take (min k (length xs)) xs ≡ take k xs
take_min k xs = elim (cases_Bool (nat_le k (length xs))) [
  | inl low ↦ ap (λ j. take j xs) (min-eq_left (leb-true k (length xs) low))
  | inr high ↦ (
      let less : length xs < k = leb-false k (length xs) high in
      ap (λ j. take j xs) (min-eq_right (omega arith)) ∙ take_all (length xs) xs (omega arith) ∙ sym (take_all k xs (omega arith)))
]

take_first : (k : ℕ) (xs : List ℕ) → 0 < k → slice_index (take k xs) 0 ≡ slice_index xs 0
take_first zero xs some = absurd (omega arith)
take_first (suc k) [] some = refl
take_first (suc k) (x ∷ xs) some = refl

take_long : (k : ℕ) (xs : List ℕ) → 0 < k → 1 ≤ length xs → 1 ≤ length (take k xs)
take_long zero xs some long = absurd (omega arith)
take_long (suc k) [] some long = absurd (omega arith)
take_long (suc k) (x ∷ xs) some long = omega arith

-- what the batch's event says of its window
pub first_call : (s : Setting) (h : List Entry) (n x : ℕ) (xs : List ℕ) → 1 ≤ length xs → slice_index xs 0 ≡ x → call_in s h n (window_in s n x) false ≡ window_call s h n xs None
first_call s h n x [] some first = absurd (omega arith)
first_call s h n x (y ∷ ys) some first = ap (λ (i : ℕ). call_in s h n (window_in s n i) false) (sym first) ∙ call_first s h n y ys

-- the front of the places that the cut looks at
pub record IsFew (s : Setting) (places few : List ℕ) : Type 0 where
  pub are : few ≡ take (s.config.batch_size + 1) places
  pub first : slice_index few 0 ≡ slice_index places 0
  pub some : 1 ≤ length few

pub is_few : (s : Setting) (places : List ℕ) → 1 ≤ length places → IsFew s places (take (min (s.config.batch_size + 1) (length places)) places)
is_few s places some =
    let are = take_min (s.config.batch_size + 1) places in
    record {
      are = are;
      first = ap (λ (xs : List ℕ). slice_index xs 0) are ∙ take_first (s.config.batch_size + 1) places (omega arith);
      some = subst (λ (xs : List ℕ). 1 ≤ length xs) (sym are) (take_long (s.config.batch_size + 1) places (omega arith) some);
    }

pub batch_some : (few : List ℕ) (count : ℕ) → 0 < count → 1 ≤ length few → 1 ≤ length (take count few)
batch_some few count some long = take_long count few some long

pub batch_call : (s : Setting) (h : List Entry) (n : ℕ) (places few : List ℕ) (count : ℕ) → IsFew s places few → 0 < count → call_in s h n (window_in s n (slice_index places 0)) false ≡ window_call s h n (take count few) None
batch_call s h n places few count is some =
    first_call s h n (slice_index places 0) (take count few) (take_long count few some is.some) (take_first count few some ∙ is.first)

-- a record that is not expired and fits can begin a batch
pub can_begin : (s : Setting) (h : List Entry) (n m : ℕ) (few : List ℕ) (w : Option WindowCall) → 1 ≤ length few → is_some (record_at s n (slice_index few 0)) ≡ true → FitsAlone s n (slice_index few 0) w → is_expired s n m (slice_index few 0) ≡ false
    → CanBegin (limits_of s h w) m (map (piece_of s h n) few)
can_begin s h n m [] w some stands fits young = absurd (omega arith)
can_begin s h n m (x ∷ xs) w some stands fits young = (fits.element, sym (expired_is s h n m x stands) ∙ young)

module _ (s : Setting) (h : List Entry) (lane : LaneId) (m : ℕ) (places : List ℕ) (fresh : Bool) (legal : Legal s h) (front : IsFrontOf s h lane places fresh) (w : Option WindowCall) (few : List ℕ) (count : ℕ)
    (w_is : w ≡ call_in s h lane.shard (window_in s lane.shard (slice_index places 0)) false)
    (few_is : IsFew s places few) (framed : frame_of s w ≤ MAX_EVENT) (cut : IsLongestPrefix (limits_of s h w) m (map (piece_of s h lane.shard) few) count) where
  -- the front with its first place apart
  pub record Parted : Type 0 where
    pub x : ℕ
    pub rest : List ℕ
    pub places_are : places ≡ x ∷ rest
    pub w_at : w ≡ window_call s h lane.shard (x ∷ []) None
    pub is : IsCutOf s h lane m x rest few count
    pub fresh_at : is_fresh s h lane.shard x ≡ fresh

  parted_at : (xs : List ℕ) → places ≡ xs → Parted
  parted_at [] e = (let short : length places ≡ 0 = ap length e in let some = front.some in absurd (omega (arith, short, some)))
  parted_at (x ∷ rest) e =
      let first : slice_index places 0 ≡ x = ap (λ (xs : List ℕ). slice_index xs 0) e in
      let w_at : w ≡ window_call s h lane.shard (x ∷ []) None = w_is ∙ ap (λ (i : ℕ). call_in s h lane.shard (window_in s lane.shard i) false) first ∙ call_first s h lane.shard x [] in
      record {
        x = x;
        rest = rest;
        places_are = e;
        w_at = w_at;
        is = record {
          group_is = front.group_is ∙ e;
          front_is = few_is.are ∙ ap (take (s.config.batch_size + 1)) e;
          stand = λ i member. came_stands s h legal lane.shard i (covered_group s h lane (x ∷ rest) (front.group_is ∙ e) i member);
          framed = subst (λ (v : Option WindowCall). frame_of s v ≤ MAX_EVENT) w_at framed;
          cut = subst (λ (v : Option WindowCall). IsLongestPrefix (limits_of s h v) m (map (piece_of s h lane.shard) few) count) w_at cut;
        };
        fresh_at = ap (is_fresh s h lane.shard) (sym first) ∙ front.fresh_is;
      }

  parted : Parted
  parted = parted_at places refl

  why_here : (why : Why) → why ≡ why_of (limits_of s h w) m (map (piece_of s h lane.shard) few) count → why ≡ why_of (limits_of s h (window_call s h lane.shard (parted.x ∷ []) None)) m (map (piece_of s h lane.shard) few) count
  why_here why is = is ∙ ap (λ (v : Option WindowCall). why_of (limits_of s h v) m (map (piece_of s h lane.shard) few) count) parted.w_at

  pub waits_here : (why : Why) (until : ℕ) → why ≡ why_of (limits_of s h w) m (map (piece_of s h lane.shard) few) count → wait_of fresh why ≡ Some until → next.Idle until ≡ next_batch s h lane m
  waits_here why until is waits = batch_waits s h lane m parted.x parted.rest few count parted.is fresh until parted.fresh_at (ap (wait_of fresh) (sym (why_here why is)) ∙ waits)

  pub goes_here : (why : Why) (job : Job) → why ≡ why_of (limits_of s h w) m (map (piece_of s h lane.shard) few) count → wait_of fresh why ≡ None → job ≡ job_of s h lane (take count few) None → next.Call job ≡ next_batch s h lane m
  goes_here why job is goes made = ap next.Call made ∙ batch_goes s h lane m parted.x parted.rest few count parted.is fresh parted.fresh_at (ap (wait_of fresh) (sym (why_here why is)) ∙ goes)
