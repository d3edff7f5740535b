-- Parts that come one after the other.
use Rattle.std.proofs.Common.{◌≡◌, ℕ, zero, suc, ◌+◌, ◌<◌, ◌≤◌, Bool, false, cond, ◌&&◌, List, [], ◌∷◌, ◌++◌, length, zero-add, refl, sym, ap, ◌∙◌, subst, arith, append_assoc, append-nil, Option, Some, None}
use Rattle.std.specs.Prelude.{◌==◌, filter, slice_get, option_map, unwrap_or, is_none}
use Rattle.std.specs.Option.{option_or}
use Rattle.std.proofs.lemmas.Bool.{and_parts, eq-eqb, eqb-true, false_from_ne_true}
use Rattle.std.proofs.lemmas.List.Elements.{filter-append}
use Rattle.esm_model.specs.Records.{Record}
use Rattle.esm_model.specs.declared.lane.LaneId.{LaneId}
use Rattle.esm_model.specs.declared.entry.Fate.{Fate}
use Rattle.esm_model.specs.declared.entry.Entry.{Entry}
use Rattle.esm_model.specs.declared.entry.Entry.TheVariants.{Came, Began, Ended, Gave, Tried, Closed, Replayed, Shut}
use Rattle.esm_model.specs.declared.setup.FoundFate.{FoundFate}
use Rattle.esm_model.specs.declared.moment.TheConstants.{MAX_MOMENT}
use Rattle.esm_model.specs.Setting.{Setting, Stream, over, records_of, record_at, found_fate}
use Rattle.esm_model.specs.Entries.{holds, last_moment, came_count, is_shut}
use Rattle.esm_model.specs.Fates.{below, given, lacks_fate, came_places}
use Rattle.esm_model.specs.Step.{IsLater, IsKept, MayCome, Legal}
use Rattle.esm_model.specs.Owed.{is_refused, is_unsorted, unsorted, debts}
use Rattle.esm_model.proofs.Lists.{In, apart, Distinct}
use Rattle.esm_model.proofs.Steps.{came_grows}
use Rattle.esm_model.proofs.Records.{filter_same}
use Rattle.esm_model.proofs.NamedPlaces.{names_came}
use Rattle.esm_ingest.specs.Parts.{Part, is_refused_at, refused_from}
use Rattle.esm_ingest.specs.Entries.{with_entries, came_part, came_parts}
use Rattle.esm_ingest.proofs.Shards.{or_off}
use Rattle.esm_ingest.proofs.Places.{shards, Every, every_map, Stands}

-- they may come

pub record Comes (s : Setting) (h : List Entry) (p : Part) : Type 0 where
  pub first : p.first ≡ came_count h p.shard
  pub some : 1 ≤ length p.records
  pub within : p.first + length p.records ≤ length (records_of s p.shard)
  pub kept : IsKept s p.shard p.first (length p.records)

abbrev pub after_parts : List Entry → ℕ → List Part → List Entry
after_parts h m ps = with_entries h (came_parts m ps)

other_shard : (ps : List Part) (n k : ℕ) → holds (shards ps) n ≡ false → In (shards ps) k → (n == k) ≡ false
other_shard ps n k none member = false_from_ne_true (n == k) (λ same. apart (shards ps) n none (subst (In (shards ps)) (sym (eqb-true n k same)) member))

came_off : (h : List Entry) (m : ℕ) (p : Part) (k : ℕ) → (p.shard == k) ≡ false → came_count (came_part m p ∷ h) k ≡ came_count h k
came_off h m p k off = rw off refl

comes_after : (s : Setting) (h : List Entry) (m : ℕ) (p q : Part) → (p.shard == q.shard) ≡ false → Comes s h q → Comes s (came_part m p ∷ h) q
comes_after s h m p q off c = record { first = c.first ∙ sym (came_off h m p q.shard off); some = c.some; within = c.within; kept = c.kept }

pub parts_legal : (s : Setting) (h : List Entry) (m : ℕ) (ps : List Part) → Legal s h → is_shut h ≡ false → IsLater h m → Distinct (shards ps) → Every (Comes s h) ps → Legal s (after_parts h m ps)
parts_legal s h m [] legal going later d all = legal
parts_legal s h m (p ∷ ps) legal going later d all =
    let c = all.0 in
    let within : m ≤ MAX_MOMENT = later.within in
    let may : MayCome s h p.shard p.first (length p.records) = record { not_shut = going; next = c.first; some = c.some; within = c.within; kept = c.kept } in
    parts_legal s (came_part m p ∷ h) m ps (legal, (later, may)) going (record { not_back = omega arith; within = within }) d.1
    (every_map (Comes s h) (Comes s (came_part m p ∷ h)) ps (λ q member c2. comes_after s h m p q (other_shard ps p.shard q.shard d.0 member) c2) all.1)

-- what the history says then

pub given_after : (h : List Entry) (m : ℕ) (ps : List Part) (n i : ℕ) → given (after_parts h m ps) n i ≡ given h n i
given_after h m [] n i = refl
given_after h m (p ∷ ps) n i = given_after (came_part m p ∷ h) m ps n i

pub debts_after : (s : Setting) (h : List Entry) (m : ℕ) (ps : List Part) (lane : LaneId) → debts s (after_parts h m ps) lane ≡ debts s h lane
debts_after s h m [] lane = refl
debts_after s h m (p ∷ ps) lane = debts_after s (came_part m p ∷ h) m ps lane

pub last_after : (h : List Entry) (m : ℕ) (ps : List Part) → last_moment h ≡ m → last_moment (after_parts h m ps) ≡ m
last_after h m [] is = is
last_after h m (p ∷ ps) is = last_after (came_part m p ∷ h) m ps refl

pub last_some : (h : List Entry) (m : ℕ) (ps : List Part) → 1 ≤ length ps → last_moment (after_parts h m ps) ≡ m
last_some h m [] some = absurd (omega arith)
last_some h m (p ∷ ps) some = last_after (came_part m p ∷ h) m ps refl

pub count_off : (h : List Entry) (m : ℕ) (ps : List Part) (k : ℕ) → holds (shards ps) k ≡ false → came_count (after_parts h m ps) k ≡ came_count h k
count_off h m [] k none = refl
count_off h m (p ∷ ps) k none =
    let off = or_off (p.shard == k) (holds (shards ps) k) none in
    count_off (came_part m p ∷ h) m ps k off.1 ∙ came_off h m p k off.0

pub count_after : (h : List Entry) (m : ℕ) (ps : List Part) → Distinct (shards ps) → Every (λ (p : Part). came_count (after_parts h m ps) p.shard ≡ length p.records + came_count h p.shard) ps
count_after h m [] d = tt
count_after h m (p ∷ ps) d =
    let g = came_part m p ∷ h in (
      count_off (came_part m p ∷ h) m ps p.shard d.0 ∙ rw (eq-eqb p.shard p.shard refl) refl,
      every_map (λ (q : Part). came_count (after_parts g m ps) q.shard ≡ length q.records + came_count g q.shard) (λ (q : Part). came_count (after_parts g m ps) q.shard ≡ length q.records + came_count h q.shard) ps
          (λ q member is. is ∙ ap (λ (c : ℕ). length q.records + c) (came_off h m p q.shard (other_shard ps p.shard q.shard d.0 member)))
          (count_after (came_part m p ∷ h) m ps d.1),
    )

-- places that have not come have no fate of the history

none_now : (o : Option Fate) (b : Bool) (f : Fate) → o ≡ None → b ≡ false → option_or o (cond b (Some f) None) ≡ None
none_now o b f none off = rw (none, off) refl

pub given_none : (s : Setting) (h : List Entry) → Legal s h → (n i : ℕ) → came_count h n ≤ i → given h n i ≡ None
given_none s [] legal n i past = refl
given_none s (Gave by k places f line state m ∷ h) legal n i past =
    none_now (given h n i) ((k == n) && holds places i) f (given_none s h legal.0 n i past) (false_from_ne_true ((k == n) && holds places i) (λ both.
    (let named = and_parts (k == n) (holds places i) both in
    let low : i < came_count h k = names_came s h (Gave by k places f line state m) legal i named.1 in
    let same : came_count h k ≡ came_count h n = ap (came_count h) (eqb-true k n named.0) in
    absurd (omega (arith, low, same, past)))))
given_none s (Came k first count m ∷ h) legal n i past = given_none s h legal.0 n i (let grows : came_count h n ≤ came_count (Came k first count m ∷ h) n = came_grows (Came k first count m) h n in omega (arith, grows, past))
given_none s (Began lane places closing m ∷ h) legal n i past = given_none s h legal.0 n i past
given_none s (Ended lane reply m ∷ h) legal n i past = given_none s h legal.0 n i past
given_none s (Tried lane places closing t m ∷ h) legal n i past = given_none s h legal.0 n i past
given_none s (Closed lane w m ∷ h) legal n i past = given_none s h legal.0 n i past
given_none s (Replayed k places m ∷ h) legal n i past = given_none s h legal.0 n i past
given_none s (Shut m ∷ h) legal n i past = given_none s h legal.0 n i past

-- what is unsorted then

abbrev refused_there : Setting → ℕ → ℕ → Bool
refused_there s n i = unwrap_or (option_map (is_refused s) (record_at s n i)) false

lacks_after : (s : Setting) (h : List Entry) (m : ℕ) (ps : List Part) (n i : ℕ) → lacks_fate s (after_parts h m ps) n i ≡ lacks_fate s h n i
lacks_after s h m ps n i = ap (λ (o : Option Fate). is_none (option_or (option_map (λ (f : FoundFate). f.fate) (found_fate s n i)) o)) (given_after h m ps n i)

still_unsorted : (s : Setting) (h : List Entry) (m : ℕ) (ps : List Part) (n : ℕ) (is : List ℕ) → filter (is_unsorted s (after_parts h m ps) n) is ≡ filter (is_unsorted s h n) is
still_unsorted s h m ps n is = filter_same (is_unsorted s (after_parts h m ps) n) (is_unsorted s h n) is (λ i member. ap (λ (b : Bool). b && refused_there s n i) (lacks_after s h m ps n i))

pub unsorted_off : (s : Setting) (h : List Entry) (m : ℕ) (ps : List Part) (n : ℕ) → holds (shards ps) n ≡ false → unsorted s (after_parts h m ps) n ≡ unsorted s h n
unsorted_off s h m ps n none = ap (λ (c : ℕ). filter (is_unsorted s (after_parts h m ps) n) (below c)) (count_off h m ps n none) ∙ still_unsorted s h m ps n (below (came_count h n))

-- the numbers from c on, k of them
run : ℕ → ℕ → List ℕ
run c zero = []
run c (suc k) = c ∷ run (c + 1) k

run_last : (c k : ℕ) → run c (suc k) ≡ run c k ++ (c + k) ∷ []
unfolding run
run_last c zero = (let e : c ≡ c + 0 = omega arith in ap (λ (i : ℕ). i ∷ []) e)
run_last c (suc k) = (let e : (c + 1) + k ≡ c + suc k = omega arith in ap (λ (xs : List ℕ). c ∷ xs) (run_last (c + 1) k) ∙ ap (λ (i : ℕ). c ∷ (run (c + 1) k ++ i ∷ [])) e)

below_run : (n k : ℕ) → below (k + n) ≡ below n ++ run n k
unfolding run
below_run n zero = rw zero-add (sym (append-nil (below n)))
below_run n (suc k) =
    let e : suc k + n ≡ suc (k + n) = omega arith in
    let f : k + n ≡ n + k = omega arith in
    rw e (ap (λ (xs : List ℕ). xs ++ (k + n) ∷ []) (below_run n k) ∙ (append_assoc (below n) (run n k) ((k + n) ∷ []) ∙ (ap (λ (i : ℕ). below n ++ (run n k ++ i ∷ [])) f ∙ ap (λ (xs : List ℕ). below n ++ xs) (sym (run_last n k)))))

filter_refused : (q : ℕ → Bool) (s : Setting) (n c : ℕ) (rs : List Record) → ((k : ℕ) (r : Record) → slice_get rs k ≡ Some r → q (c + k) ≡ is_refused_at s n (c + k) r) → filter q (run c (length rs)) ≡ refused_from s n c rs
unfolding run
filter_refused q s n c [] same = refl
filter_refused q s n c (r ∷ rs) same =
    let e : c + 0 ≡ c = omega arith in
    let here : q c ≡ is_refused_at s n c r = subst (λ (i : ℕ). q i ≡ is_refused_at s n i r) e (same 0 r refl) in
    let rest = filter_refused q s n (c + 1) rs (λ k x at.
    (let f : c + suc k ≡ (c + 1) + k = omega arith in subst (λ (i : ℕ). q i ≡ is_refused_at s n i x) f (same (suc k) x at))) in
    step (q c) (is_refused_at s n c r) c (filter q (run (c + 1) (length rs))) (refused_from s n (c + 1) rs) here rest
  where
    step : (a b : Bool) (i : ℕ) (xs ys : List ℕ) → a ≡ b → xs ≡ ys → cond a (i ∷ xs) xs ≡ cond b (i ∷ ys) ys
    step a b i xs ys e f = rw (e, f) refl

lacks_found : (s : Setting) (h : List Entry) (n i : ℕ) → given h n i ≡ None → lacks_fate s h n i ≡ is_none (found_fate s n i)
lacks_found s h n i none = ap (λ (o : Option Fate). is_none (option_or (option_map (λ (f : FoundFate). f.fate) (found_fate s n i)) o)) none ∙ at (found_fate s n i)
  where
    at : (o : Option FoundFate) → is_none (option_or (option_map (λ (f : FoundFate). f.fate) o) None) ≡ is_none o
    at None = refl
    at (Some f) = refl

-- the places of a part that are refused are those that are unsorted once it came
pub unsorted_part : (s : Setting) (h : List Entry) (m : ℕ) (ps : List Part) (p : Part) → Legal s h → unsorted s h p.shard ≡ [] → p.first ≡ came_count h p.shard → Stands s p
    → came_count (after_parts h m ps) p.shard ≡ length p.records + came_count h p.shard → unsorted s (after_parts h m ps) p.shard ≡ refused_from s p.shard p.first p.records
unsorted_part s h m ps p legal sorted first stands count =
    let n = p.shard in
    let c = came_count h p.shard in
    let q = is_unsorted s h n in
    still_unsorted s h m ps n (came_places (after_parts h m ps) n)
    ∙ (ap (λ (k : ℕ). filter (is_unsorted s h n) (below k)) count
    ∙ (ap (filter (is_unsorted s h n)) (below_run (came_count h p.shard) (length p.records))
    ∙ (filter-append q (below c) (run c (length p.records))
    ∙ (ap (λ (xs : List ℕ). xs ++ filter (is_unsorted s h n) (run (came_count h n) (length p.records))) sorted
    ∙ (ap (λ (k : ℕ). filter (is_unsorted s h n) (run k (length p.records))) (sym first)
    ∙ filter_refused q s n p.first p.records (λ k r at.
    (let past : came_count h n ≤ p.first + k = omega (arith, first) in
    let lacks : lacks_fate s h n (p.first + k) ≡ is_none (found_fate s n (p.first + k)) = lacks_found s h n (p.first + k) (given_none s h legal n (p.first + k) past) in
    ap (λ (b : Bool). b && refused_there s n (p.first + k)) lacks
    ∙ ap (λ (o : Option Record). is_none (found_fate s n (p.first + k)) && unwrap_or (option_map (is_refused s) o) false) (stands k r at))))))))

-- other records change nothing of it
pub refused_over : (s : Setting) (streams : List Stream) (n c : ℕ) (rs : List Record) → refused_from (over s streams) n c rs ≡ refused_from s n c rs
refused_over s streams n c [] = refl
refused_over s streams n c (r ∷ rs) = ap (λ (ys : List ℕ). cond (is_refused_at s n c r) (c ∷ ys) ys) (refused_over s streams n (c + 1) rs)
