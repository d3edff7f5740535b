-- What the bytes so far are as a request.
use Rattle.std.proofs.Common.{◌≡◌, ◌≢◌, ℕ, ◌+◌, ◌<◌, ◌≤◌, List, ◌++◌, length, take, drop, sym, refl, ap, ◌∙◌, inl, inr, arith}
use Rattle.std.proofs.lemmas.Bool.{cases_lt, cond-true, cond-false, lt-ltb, le-ltb}
use Rattle.std.proofs.lemmas.List.{length-append, length-drop, take-append-le}
use Rattle.httparse.specs.Grammar.{RequestHead}
use Rattle.httparse.proofs.GrammarLemmas.{request_unique}
use Rattle.esm_model.specs.Json.{read_json}
use Rattle.esm_api.specs.declared.head.Head.{Head}
use Rattle.esm_api.specs.declared.plan.Plan.{Plan}
use Rattle.esm_api.specs.declared.plan.Plan.TheVariants as plan
use Rattle.esm_api.specs.declared.refusal.Refusal.TheVariants as row
use Rattle.esm_api.specs.Head.{BeginsWith, HasBadHead, AwaitsHead}
use Rattle.esm_api.specs.HeadRead.{IsPlanned}
use Rattle.esm_api.specs.Plan.{plan_of, body_bytes}
use Rattle.esm_api.specs.Request.{Judgement, Unfinished, Refused, changing, judged, IsJudged}
use Rattle.esm_api.proofs.HeadLemmas.{BeginsWith-append, bad_on}

-- ---- plans

pub unfinished_by_plan : (p : Plan) (after : List ℕ) → length after < body_bytes p → judged p after ≡ Unfinished
unfinished_by_plan (plan.Refuse row) after short = absurd (omega (arith, short))
unfinished_by_plan plan.List after short = absurd (omega (arith, short))
unfinished_by_plan (plan.Get id) after short = absurd (omega (arith, short))
unfinished_by_plan (plan.Delete id) after short = absurd (omega (arith, short))
unfinished_by_plan (plan.Read what count) after short = cond-true _ _ _ (lt-ltb (length after) count short)

pub whole_by_plan : (what : _) (count : ℕ) (after : List ℕ) → count ≤ length after → judged (plan.Read what count) after ≡ changing what (read_json (take count after))
whole_by_plan what count after long = cond-false _ _ _ (le-ltb (length after) count long)

judged_on : (p : Plan) (after more : List ℕ) → judged p after ≢ Unfinished → judged p (after ++ more) ≡ judged p after
judged_on (plan.Refuse row) after more whole = refl
judged_on plan.List after more whole = refl
judged_on (plan.Get id) after more whole = refl
judged_on (plan.Delete id) after more whole = refl
judged_on (plan.Read what count) after more whole =
    elim (cases_lt (length after) count) [
      | inl short ↦ absurd (whole (unfinished_by_plan (plan.Read what count) after short))
      | inr long ↦
          whole_by_plan what count (after ++ more) (omega (arith, long, length-append after more))
          ∙ ap (λ t. changing what (read_json t)) (take-append-le count after more long)
          ∙ sym (whole_by_plan what count after long)
    ]

-- ---- what is planned

pub unfinished_if_awaits : (bytes : List ℕ) → AwaitsHead bytes → IsJudged bytes Unfinished
unfinished_if_awaits bytes awaits = inr (inl (awaits, refl))

pub unfinished_if_short : (bytes : List ℕ) (head : Head) → IsPlanned bytes head → head.len ≤ length bytes → length bytes < head.len + body_bytes head.plan → IsJudged bytes Unfinished
unfinished_if_short bytes head planned within short =
    elim planned [
      | inl bad ↦ absurd (omega (arith, within, short, ap body_bytes bad.1))
      | inr found ↦
          let after = drop head.len bytes in
          let left : length after < body_bytes (plan_of found.0) = omega (arith, short, within, length-drop head.len bytes, ap body_bytes found.2) in
          inr (inr (found.0, after, found.1, sym (unfinished_by_plan (plan_of found.0) after left)))
    ]

pub judged_if_planned : (bytes : List ℕ) (head : Head) (judgement : Judgement) → IsPlanned bytes head → judgement ≡ judged head.plan (drop head.len bytes) → IsJudged bytes judgement
judged_if_planned bytes head judgement planned is =
    let after = drop head.len bytes in
    elim planned [
      | inl bad ↦ inl (bad.0, is ∙ ap (λ p. judged p after) bad.1)
      | inr found ↦ inr (inr (found.0, after, found.1, is ∙ ap (λ p. judged p after) found.2))
    ]

-- ---- laws

one_of_bad : (bytes : List ℕ) (other : Judgement) → HasBadHead bytes → IsJudged bytes other → other ≡ Refused row.Head
one_of_bad bytes other bad (inl is) = is.1
one_of_bad bytes other bad (inr (inl awaits)) =
    let yet = awaits.0 in
    absurd (elim bad.reason [
      | inl breaks ↦ yet.formed breaks
      | inr rest ↦ elim rest [ inl long ↦ omega (arith, long, yet.short) | inr many ↦ omega (arith, many, yet.few) ]
    ])
one_of_bad bytes other bad (inr (inr found)) = absurd (bad.none found.0 found.1 found.2)

one_of_awaiting : (bytes : List ℕ) (other : Judgement) → AwaitsHead bytes → IsJudged bytes other → other ≡ Unfinished
one_of_awaiting bytes other awaits (inl bad) = sym (one_of_bad bytes Unfinished bad.0 (unfinished_if_awaits bytes awaits) ∙ sym bad.1)
one_of_awaiting bytes other awaits (inr (inl is)) = is.1
one_of_awaiting bytes other awaits (inr (inr found)) = absurd (awaits.none found.0 found.1 found.2)

one_of_found : (bytes : List ℕ) (tree : RequestHead) (after : List ℕ) (other : Judgement) → BeginsWith bytes tree after → IsJudged bytes other → other ≡ judged (plan_of tree) after
one_of_found bytes tree after other begins (inl bad) = absurd (bad.0.none tree after begins)
one_of_found bytes tree after other begins (inr (inl awaits)) = absurd (awaits.0.none tree after begins)
one_of_found bytes tree after other begins (inr (inr found)) =
    let same = request_unique bytes found.0 tree found.1 after found.2.reads begins.reads in
    found.3 ∙ ap (λ t. judged (plan_of t) found.1) same.0 ∙ ap (judged (plan_of tree)) same.1

-- the bytes are one thing
pub one_judgement : (bytes : List ℕ) (one other : Judgement) → IsJudged bytes one → IsJudged bytes other → one ≡ other
one_judgement bytes one other (inl bad) judged = bad.1 ∙ sym (one_of_bad bytes other bad.0 judged)
one_judgement bytes one other (inr (inl awaits)) judged = awaits.1 ∙ sym (one_of_awaiting bytes other awaits.0 judged)
one_judgement bytes one other (inr (inr found)) judged = found.3 ∙ sym (one_of_found bytes found.0 found.1 other found.2 judged)

-- what is whole stays so, whatever follows
pub whole_stays : (bytes more : List ℕ) (judgement : Judgement) → IsJudged bytes judgement → judgement ≢ Unfinished → IsJudged (bytes ++ more) judgement
whole_stays bytes more judgement (inl bad) whole = inl (bad_on bytes more bad.0, bad.1)
whole_stays bytes more judgement (inr (inl awaits)) whole = absurd (whole awaits.1)
whole_stays bytes more judgement (inr (inr found)) whole =
    inr (inr (
      found.0,
      found.1 ++ more,
      BeginsWith-append bytes found.0 found.1 more found.2,
      found.3 ∙ sym (judged_on (plan_of found.0) found.1 more (λ e. whole (found.3 ∙ e))),
    ))
