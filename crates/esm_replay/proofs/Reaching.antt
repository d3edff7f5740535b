-- Ranges that reach as far as those before them hold the same records, and each leads all after it.
use Rattle.std.proofs.Common.{◌≡◌, ℕ, suc, ◌+◌, ◌-◌, ◌<◌, ◌≤◌, Bool, true, false, not, ◌&&◌, List, [], ◌∷◌, ◌++◌, length, get_or, refl, sym, ap, ◌∙◌, subst, ◌⊎◌, inl, inr, arith, append_assoc, Option, Some, None}
use Rattle.std.specs.Prelude.{◌==◌, slice_get}
use Rattle.std.specs.List.Sorted.{IsSortedBy}
use Rattle.std.proofs.lemmas.Bool.{cases_Bool, and_parts, and_from, or_cases, or_left, or_right, eqb-true, eq-eqb, cond-true, cond-false}
use Rattle.std.proofs.lemmas.List.{append-nil, length-append}
use Rattle.std.proofs.lemmas.List.Sorted.{ranks_by, sorted_far}
use Rattle.esm_replay_model.specs.declared.range.Range.{Range}
use Rattle.esm_replay_model.specs.ReplaySetting.{is_up_to, is_in_range, is_in_ranges}
use Rattle.esm_replay.specs.Ranges.{start_of, starts_before, reaching, all_reaching, last_range, StartsAll, AllStart, Leads, LeadsAll, AllLead}
use Rattle.esm_replay.proofs.Orders.{start_total, up_to_trans, up_to_total, up_to_itself, IsBy, by_trans, by_not_before, not_before_by, shards_by, up_to_by}

-- a record in a range

pub record InRange (n : ℕ) (seq : List ℕ) (r : Range) : Type 0 where
  pub shard : r.shard ≡ n
  pub low : is_up_to r.first seq ≡ true
  pub high : is_up_to seq r.last ≡ true

pub in_parts : (n : ℕ) (seq : List ℕ) (r : Range) → is_in_range n seq r ≡ true → InRange n seq r
in_parts n seq r is =
    let p1 = and_parts (r.shard == n) (is_up_to r.first seq && is_up_to seq r.last) is in
    let p2 = and_parts (is_up_to r.first seq) (is_up_to seq r.last) p1.1 in
    record { shard = eqb-true r.shard n p1.0; low = p2.0; high = p2.1 }

pub in_whole : (n : ℕ) (seq : List ℕ) (r : Range) → InRange n seq r → is_in_range n seq r ≡ true
in_whole n seq r in' = and_from (r.shard == n) (is_up_to r.first seq && is_up_to seq r.last) (eq-eqb r.shard n in'.shard) (and_from (is_up_to r.first seq) (is_up_to seq r.last) in'.low in'.high)

-- one that reaches as far as the one before it

and_not : (a b : Bool) → b ≡ true → (a && not b) ≡ false
and_not true b is = ap not is
and_not false b is = refl

-- as it was, or stretched to where the one before it ends
record Stays (w r q : Range) : Type 0 where
  is : q ≡ r
  reach : w.shard ≡ r.shard → is_up_to w.last r.last ≡ true

record Stretched (w r q : Range) : Type 0 where
  is : q ≡ record r { last = w.last }
  shard : w.shard ≡ r.shard
  short : is_up_to w.last r.last ≡ false

reached : (w r : Range) → Stays w r (reaching (Some w) r) ⊎ Stretched w r (reaching (Some w) r)
reached w r =
    elim (cases_Bool (w.shard == r.shard)) [
      | inl same ↦ elim (cases_Bool (is_up_to w.last r.last)) [
        | inl far ↦ inl (record {
          is = cond-false ((w.shard == r.shard) && not (is_up_to w.last r.last)) (record r { last = w.last }) r (and_not (w.shard == r.shard) (is_up_to w.last r.last) far);
          reach = λ e. far;
        })
        | inr short ↦ inr (record {
          is = cond-true ((w.shard == r.shard) && not (is_up_to w.last r.last)) (record r { last = w.last }) r (and_from (w.shard == r.shard) (not (is_up_to w.last r.last)) same (ap not short));
          shard = eqb-true w.shard r.shard same;
          short = short;
        })
      ]
      | inr other ↦ inl (record {
        is = cond-false ((w.shard == r.shard) && not (is_up_to w.last r.last)) (record r { last = w.last }) r (ap (λ (b : Bool). b && not (is_up_to w.last r.last)) other);
        reach = λ e. (let clash : true ≡ false = sym (eq-eqb w.shard r.shard e) ∙ other in cc);
      })
    ]

-- it starts where it did
same_start : (w r : Range) → start_of (reaching (Some w) r) ≡ start_of r
same_start w r = elim (reached w r) [ inl stays ↦ ap start_of stays.is | inr stretched ↦ ap start_of stretched.is ]

reach_leads : (w r : Range) → IsBy (start_of w) (start_of r) → Leads w (reaching (Some w) r)
reach_leads w r by =
    elim (reached w r) [
      | inl stays ↦ record {
        start = not_before_by w (reaching (Some w) r) (subst (λ x. IsBy (start_of w) x) (sym (same_start w r)) by);
        reach = subst (λ (q : Range). w.shard ≡ q.shard → is_up_to w.last q.last ≡ true) (sym stays.is) stays.reach;
      }
      | inr stretched ↦ record {
        start = not_before_by w (reaching (Some w) r) (subst (λ x. IsBy (start_of w) x) (sym (same_start w r)) by);
        reach = subst (λ (q : Range). w.shard ≡ q.shard → is_up_to w.last q.last ≡ true) (sym stretched.is) (λ e. up_to_itself w.last);
      }
    ]

-- it holds what the range held, and no more than that and what the one before it holds
reach_holds : (n : ℕ) (seq : List ℕ) (b : Option Range) (r : Range) → InRange n seq r → InRange n seq (reaching b r)
reach_holds n seq None r in' = in'
reach_holds n seq (Some w) r in' =
    elim (reached w r) [
      | inl stays ↦ subst (λ (q : Range). InRange n seq q) (sym stays.is) in'
      | inr stretched ↦ subst (λ (q : Range). InRange n seq q) (sym stretched.is)
          (record { shard = in'.shard; low = in'.low; high = up_to_trans seq r.last w.last in'.high (up_to_total w.last r.last stretched.short) })
    ]

lower_start : (w r : Range) → IsBy (start_of w) (start_of r) → w.shard ≡ r.shard → is_up_to w.first r.first ≡ true
lower_start w r by same = up_to_by r.shard w.first r.first (subst (λ (n : ℕ). IsBy (n, w.first) (start_of r)) same by)

held_before : (n : ℕ) (seq : List ℕ) (w r : Range) → IsBy (start_of w) (start_of r) → InRange n seq (reaching (Some w) r) → InRange n seq r ⊎ InRange n seq w
held_before n seq w r by in' =
    elim (reached w r) [
      | inl stays ↦ inl (subst (λ (q : Range). InRange n seq q) stays.is in')
      | inr stretched ↦
          (let wide : InRange n seq (record r { last = w.last }) = subst (λ (q : Range). InRange n seq q) stretched.is in' in
          inr (record {
            shard = stretched.shard ∙ wide.shard;
            low = up_to_trans w.first r.first seq (lower_start w r by stretched.shard) wide.low;
            high = wide.high;
          }))
    ]

-- all of them

pub all_hold : (n : ℕ) (seq : List ℕ) (b : Option Range) (rs : List Range) → is_in_ranges rs n seq ≡ true → is_in_ranges (all_reaching b rs) n seq ≡ true
all_hold n seq b [] is = is
all_hold n seq b (r ∷ rs) is =
    elim (or_cases (is_in_range n seq r) (is_in_ranges rs n seq) is) [
      | inl here ↦ or_left (is_in_range n seq (reaching b r)) (is_in_ranges (all_reaching (Some (reaching b r)) rs) n seq) (in_whole n seq (reaching b r) (reach_holds n seq b r (in_parts n seq r here)))
      | inr there ↦ or_right (is_in_range n seq (reaching b r)) (is_in_ranges (all_reaching (Some (reaching b r)) rs) n seq) (all_hold n seq (Some (reaching b r)) rs there)
    ]

-- it starts no later than all of them
abbrev AllBy : Range → List Range → Type 0
AllBy w [] = Unit {0}
AllBy w (r ∷ rs) = IsBy (start_of w) (start_of r) × AllBy w rs

all_by : (w : Range) (rs : List Range) → StartsAll w rs → AllBy w rs
all_by w [] starts = tt
all_by w (r ∷ rs) starts = (by_not_before w r starts.0, all_by w rs starts.1)

all_by_same : (w q : Range) (rs : List Range) → start_of q ≡ start_of w → AllBy w rs → AllBy q rs
all_by_same w q [] same all = tt
all_by_same w q (r ∷ rs) same all = (subst (λ x. IsBy x (start_of r)) (sym same) all.0, all_by_same w q rs same all.1)

-- what the one before it holds, or itself, of ranges that it begins
or_before : (n : ℕ) (seq : List ℕ) (w r : Range) (rs : List Range) → IsBy (start_of w) (start_of r) → InRange n seq (reaching (Some w) r) → (is_in_ranges (r ∷ rs) n seq ≡ true) ⊎ InRange n seq w
or_before n seq w r rs by held =
    elim (held_before n seq w r by held) [
      | inl own ↦ inl (or_left (is_in_range n seq r) (is_in_ranges rs n seq) (in_whole n seq r own))
      | inr first ↦ inr first
    ]

all_held : (n : ℕ) (seq : List ℕ) (w : Range) (rs : List Range) → AllBy w rs → AllStart rs → is_in_ranges (all_reaching (Some w) rs) n seq ≡ true → (is_in_ranges rs n seq ≡ true) ⊎ InRange n seq w
all_held n seq w [] by starts is = inl is
all_held n seq w (r ∷ rs) by starts is =
    elim (or_cases (is_in_range n seq (reaching (Some w) r)) (is_in_ranges (all_reaching (Some (reaching (Some w) r)) rs) n seq) is) [
      | inl here ↦ or_before n seq w r rs by.0 (in_parts n seq (reaching (Some w) r) here)
      | inr there ↦ elim (all_held n seq (reaching (Some w) r) rs (all_by_same r (reaching (Some w) r) rs (same_start w r) (all_by r rs starts.0)) starts.1 there) [
        | inl later ↦ inl (or_right (is_in_range n seq r) (is_in_ranges rs n seq) later)
        | inr held ↦ or_before n seq w r rs by.0 held
      ]
    ]

held_alone : (n : ℕ) (seq : List ℕ) (rs : List Range) → AllStart rs → is_in_ranges (all_reaching None rs) n seq ≡ true → is_in_ranges rs n seq ≡ true
held_alone n seq [] starts is = is
held_alone n seq (r ∷ rs) starts is =
    elim (or_cases (is_in_range n seq r) (is_in_ranges (all_reaching (Some r) rs) n seq) is) [
      | inl here ↦ or_left (is_in_range n seq r) (is_in_ranges rs n seq) here
      | inr there ↦ elim (all_held n seq r rs (all_by r rs starts.0) starts.1 there) [
        | inl later ↦ or_right (is_in_range n seq r) (is_in_ranges rs n seq) later
        | inr held ↦ or_left (is_in_range n seq r) (is_in_ranges rs n seq) (in_whole n seq r held)
      ]
    ]

both_ways_same : (a b : Bool) → (a ≡ true → b ≡ true) → (b ≡ true → a ≡ true) → a ≡ b
both_ways_same true b to from = sym (to refl)
both_ways_same false true to from = from refl
both_ways_same false false to from = refl

pub reaching_same : (n : ℕ) (seq : List ℕ) (rs : List Range) → AllStart rs → is_in_ranges (all_reaching None rs) n seq ≡ is_in_ranges rs n seq
reaching_same n seq rs starts = both_ways_same (is_in_ranges (all_reaching None rs) n seq) (is_in_ranges rs n seq) (held_alone n seq rs starts) (all_hold n seq None rs)

-- each leads all after it

leads_trans : (a b c : Range) → Leads a b → Leads b c → Leads a c
leads_trans a b c first second =
    let ab = by_not_before a b first.start in
    let bc = by_not_before b c second.start in
    record {
      start = not_before_by a c (by_trans (start_of a) (start_of b) (start_of c) ab bc);
      reach = λ same.
          let low : a.shard ≤ b.shard = shards_by (start_of a) (start_of b) ab in
          let high : b.shard ≤ c.shard = shards_by (start_of b) (start_of c) bc in
          let here : a.shard ≡ b.shard = omega arith in
          let there : b.shard ≡ c.shard = omega arith in
          up_to_trans a.last b.last c.last (first.reach here) (second.reach there);
    }

leads_all_trans : (a b : Range) (rs : List Range) → Leads a b → LeadsAll b rs → LeadsAll a rs
leads_all_trans a b [] first all = tt
leads_all_trans a b (r ∷ rs) first all = (leads_trans a b r first all.0, leads_all_trans a b rs first all.1)

reaching_leads : (w : Range) (rs : List Range) → AllBy w rs → AllStart rs → LeadsAll w (all_reaching (Some w) rs) × AllLead (all_reaching (Some w) rs)
reaching_leads w [] by starts = (tt, tt)
reaching_leads w (r ∷ rs) by starts =
    let first : Leads w (reaching (Some w) r) = reach_leads w r by.0 in
    let later = reaching_leads (reaching (Some w) r) rs (all_by_same r (reaching (Some w) r) rs (same_start w r) (all_by r rs starts.0)) starts.1 in
    ((first, leads_all_trans w (reaching (Some w) r) (all_reaching (Some (reaching (Some w) r)) rs) first later.0), (later.0, later.1))

pub all_lead : (rs : List Range) → AllStart rs → AllLead (all_reaching None rs)
all_lead [] starts = tt
all_lead (r ∷ rs) starts = let later = reaching_leads r rs (all_by r rs starts.0) starts.1 in (later.0, later.1)

-- a sorted list

starts_all : (a : Range) (rs : List Range) → ((j : ℕ) (d : Range) → j < length rs → starts_before (get_or rs j d) a ≡ false) → StartsAll a rs
starts_all a [] far = tt
starts_all a (b ∷ rs) far = (far 0 b (omega arith), starts_all a rs (λ j d l. far (suc j) d (omega arith)))

all_start : (rs : List Range) → ((i j : ℕ) (d : Range) → i ≤ j → j < length rs → starts_before (get_or rs j d) (get_or rs i d) ≡ false) → AllStart rs
all_start [] far = tt
all_start (r ∷ rs) far = (starts_all r rs (λ j d l. far 0 (suc j) d (omega arith) (omega arith)), all_start rs (λ i j d le l. far (suc i) (suc j) d (omega arith) (omega arith)))

pub sorted_start : (rs : List Range) → IsSortedBy starts_before rs → AllStart rs
sorted_start rs up = all_start rs (sorted_far starts_before (ranks_by start_total start_of) rs up)

-- one more

found_last : (rs : List Range) (r : Range) → slice_get (rs ++ r ∷ []) (length rs) ≡ Some r
found_last [] r = refl
found_last (x ∷ rs) r = found_last rs r

pub last-push : (rs : List Range) (r : Range) → last_range (rs ++ r ∷ []) ≡ Some r
last-push rs r =
    let long : length (rs ++ r ∷ []) ≡ length rs + 1 = length-append rs (r ∷ []) in
    let at : length (rs ++ r ∷ []) - 1 ≡ length rs = omega arith in
    ap (λ (k : ℕ). slice_get (rs ++ r ∷ []) k) at ∙ found_last rs r

-- how far a list of ranges has come, with those that are still to reach
pub more_reach : (done : List Range) (r q : Range) (rest whole : List Range) → done ++ all_reaching (last_range done) (r ∷ rest) ≡ whole → q ≡ reaching (last_range done) r → (done ++ q ∷ []) ++ all_reaching (last_range (done ++ q ∷ [])) rest ≡ whole
more_reach done r q rest whole before is =
    append_assoc done (q ∷ []) (all_reaching (last_range (done ++ q ∷ [])) rest)
    ∙ ap (λ (o : Option Range). done ++ q ∷ all_reaching o rest) (last-push done q)
    ∙ ap (λ (x : Range). done ++ x ∷ all_reaching (Some x) rest) is
    ∙ before

pub none_left : (done whole : List Range) (rest : List Range) → rest ≡ [] → done ++ all_reaching (last_range done) rest ≡ whole → done ≡ whole
none_left done whole rest none is = sym (append-nil done) ∙ ap (λ (rs : List Range). done ++ all_reaching (last_range done) rs) (sym none) ∙ is

pub no_range : (rs : List Range) → length rs ≡ 0 → rs ≡ []
no_range [] none = refl
no_range (r ∷ rs) none = absurd (omega arith)
