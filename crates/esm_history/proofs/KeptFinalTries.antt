-- What a content says of the tries of windows' final calls is what the history that wrote it knows, but for what its ends of
-- calls still owe. Only this crate's proofs cite this.
use Rattle.std.proofs.Common.{◌≡◌, ℕ, ◌+◌, true, ◌&&◌, List, [], ◌∷◌, ◌++◌, drop, take, refl, sym, ap, ◌∙◌, subst, ◌⊎◌, inl, inr, arith, Option, Some, None}
use Rattle.std.specs.Prelude.{◌==◌, filter_map, unwrap_or, if◌then◌else◌}
use Rattle.std.proofs.lemmas.Bool.{cases_Bool, and_parts, and_from, eqb-true, eq-eqb, both_ways}
use Rattle.esm_model.specs.Lane.{same_lane}
use Rattle.esm_model.specs.declared.lane.LaneId.{LaneId}
use Rattle.esm_model.specs.declared.entry.Reply.{Reply}
use Rattle.esm_model.specs.declared.entry.Fate.TheVariants.{Succeeded, Filtered, Expired, Exhausted}
use Rattle.esm_model.specs.declared.entry.Entry.{Entry}
use Rattle.esm_model.specs.declared.entry.Entry.TheVariants.{Came, Began, Ended, Gave, Tried, Closed, Replayed, Shut}
use Rattle.esm_model.specs.declared.verdict.Rest.{Rest}
use Rattle.esm_model.specs.declared.verdict.Rest.TheVariants as rest
use Rattle.esm_model.specs.declared.verdict.Verdict.{Verdict}
use Rattle.esm_model.specs.Valid.{HasStreamFields}
use Rattle.esm_model.specs.Setting.{Setting, found_window_tries}
use Rattle.esm_model.specs.Entries.{is_running, last_moment}
use Rattle.esm_model.specs.Ruling.{capped_tries}
use Rattle.esm_model.specs.Tries.{window_tries, window_tries_sum, tries_of, verdict_after}
use Rattle.esm_model.specs.Owed.{Debt, Success, GiveUp, Try, Close, debts, debt_entry, call_debts, success_debts, rest_debts, new_state, IsOwed}
use Rattle.esm_model.specs.Step.{Legal}
use Rattle.esm_model.proofs.Lists.{In, In-none, In-here, In-cases, In-append_right}
use Rattle.esm_model.proofs.Steps.{debts_ended}
use Rattle.esm_model.proofs.Debts.{first_debt, debt_paid}
use Rattle.esm_model.proofs.Sound.{same_lane-true, sound}
use Rattle.esm_journal_record.specs.declared.said.Said.{Said}
use Rattle.esm_journal_record.specs.EntryPayload.{entry_said}
use Rattle.esm_journal_state.specs.Meaning.{window_tries_said}
use Rattle.esm_history.proofs.OwedFinalTries.{final_tries, FinalTriesAre, final_append, CountedFinal, final_uncounted, final_verdict, final_tries_owed}

-- what is owed stays owed, or the entry brings it

record BringsFinal (s : Setting) (h : List Entry) (lane : LaneId) (e : Entry) (w : ℕ) : Type 0 where
  places : List ℕ
  number : ℕ
  brings : debt_entry s h lane (last_moment h) (Try places (Some w) number) ≡ e

abbrev StaysOwed : Setting → List Entry → Entry → LaneId → ℕ → Type 0
StaysOwed s h e lane w = In (final_tries (debts s (e ∷ h) lane)) w ⊎ BringsFinal s h lane e w

record FirstFinal (d : Debt) (w : ℕ) : Type 0 where
  places : List ℕ
  number : ℕ
  is : d ≡ Try places (Some w) number

first_final : (d : Debt) (ds : List Debt) (w : ℕ) → In (final_tries (d ∷ ds)) w → FirstFinal d w ⊎ In (final_tries ds) w
first_final (Try places None k) ds w member = inr member
first_final (Try places (Some v) k) ds w member =
    elim (In-cases v (final_tries ds) w member) [
      | inl same ↦ inl (record { places = places; number = k; is = ap (λ z. Try places (Some z) k) same })
      | inr there ↦ inr there
    ]
first_final (Success places state) ds w member = inr member
first_final (GiveUp places) ds w member = inr member
first_final (Close v) ds w member = inr member

paid_final : (s : Setting) (h : List Entry) (at lane : LaneId) (e : Entry) (w : ℕ) → same_lane at lane ≡ true → IsOwed s h at e → In (final_tries (debts s h lane)) w → StaysOwed s h e lane w
paid_final s h at lane e w same owed member = subst (λ l. In (final_tries (debts s h l)) w → StaysOwed s h e l w) (same_lane-true at lane same) own member
  where
    own : In (final_tries (debts s h at)) w → StaysOwed s h e at w
    own there =
        let first = first_debt s h at e owed in
        elim (first_final first.first (drop 1 (debts s h at)) w (subst (λ ds. In (final_tries ds) w) first.parts there)) [
          | inl is ↦ inr (record { places = is.places; number = is.number; brings = ap (debt_entry s h at (last_moment h)) (sym is.is) ∙ first.brings })
          | inr rest ↦ inl (subst (λ ds. In (final_tries ds) w) (sym (debt_paid s h at e owed)) rest)
        ]

none_owed : (s : Setting) (h : List Entry) (lane : LaneId) (w : ℕ) → debts s h lane ≡ [] → In (final_tries (debts s h lane)) w → ⊥
none_owed s h lane w none member = In-none w (subst (λ ds. In (final_tries ds) w) none member)

stays_owed : (s : Setting) (h : List Entry) (e : Entry) (lane : LaneId) (w : ℕ) → Legal s (e ∷ h) → In (final_tries (debts s h lane)) w → StaysOwed s h e lane w
stays_owed s h (Came n first count m) lane w legal member = inl member
stays_owed s h (Replayed n places m) lane w legal member = inl member
stays_owed s h (Shut m) lane w legal member = inl member
stays_owed s h (Began at places None m) lane w legal member = absurd (none_owed s h lane w (legal.1.1.call.settled.paid lane) member)
stays_owed s h (Began at places (Some v) m) lane w legal member = absurd (none_owed s h lane w (legal.1.1.call.settled.paid lane) member)
stays_owed s h (Ended at reply m) lane w legal member =
    elim (cases_Bool (same_lane at lane)) [
      | inl same ↦ absurd (none_owed s h lane w ((sound s h legal.0 lane).quiet (subst (λ l. is_running h l ≡ true) (same_lane-true at lane same) legal.1.1)) member)
      | inr other ↦ inl (rw other member)
    ]
stays_owed s h (Gave None n places f line state m) lane w legal member = inl member
stays_owed s h (Gave (Some at) n places Filtered line state m) lane w legal member = absurd legal.1.1
stays_owed s h (Gave (Some at) n places Expired line state m) lane w legal member = absurd (none_owed s h lane w (legal.1.1.settled.paid lane) member)
stays_owed s h (Gave (Some at) n places Succeeded line state m) lane w legal member =
    elim (cases_Bool (same_lane at lane)) [ inl same ↦ paid_final s h at lane (Gave (Some at) n places Succeeded line state m) w same legal.1.1 member | inr other ↦ inl (rw other member) ]
stays_owed s h (Gave (Some at) n places Exhausted line state m) lane w legal member =
    elim (cases_Bool (same_lane at lane)) [ inl same ↦ paid_final s h at lane (Gave (Some at) n places Exhausted line state m) w same legal.1.1 member | inr other ↦ inl (rw other member) ]
stays_owed s h (Tried at places c t m) lane w legal member =
    elim (cases_Bool (same_lane at lane)) [ inl same ↦ paid_final s h at lane (Tried at places c t m) w same legal.1.1 member | inr other ↦ inl (rw other member) ]
stays_owed s h (Closed at v m) lane w legal member =
    elim (cases_Bool (same_lane at lane)) [ inl same ↦ paid_final s h at lane (Closed at v m) w same legal.1.1 member | inr other ↦ inl (rw other member) ]

-- what is counted is owed

in_rest : (left : Rest) (ds : List Debt) (xs : List ℕ) (closing : Option ℕ) (t w : ℕ) → left ≡ rest.Counted → closing ≡ Some w → In (final_tries (ds ++ rest_debts left xs closing t)) w
in_rest left ds xs closing t w counted is =
    rw (counted, is) (subst (λ ws. In ws w) (sym (final_append ds (Try xs (Some w) (capped_tries (t + 1)) ∷ []))) (In-append_right (final_tries ds) (w ∷ []) w (In-here w [] w refl)))

counted_owed : (s : Setting) (h : List Entry) (at : LaneId) (reply : Reply) (m w : ℕ) → CountedFinal s h at reply w → In (final_tries (debts s (Ended at reply m ∷ h) at)) w
counted_owed s h at reply m w is =
    let v = verdict_after s h at reply in
    let counted : (verdict_after s h at reply).rest ≡ rest.Counted = ap (λ (x : Verdict). x.rest) (final_verdict s h at reply is.call w is.last is.of_window) ∙ is.counted in
    subst (λ ds. In (final_tries ds) w) (sym (debts_ended s at reply m h ∙ ap (λ o. call_debts s h at o reply) is.last))
    (in_rest v.rest (success_debts (take v.succeeded is.call.places) (new_state s at.shard is.call reply)) (drop v.succeeded is.call.places) is.call.closing (tries_of s h at.shard is.call) w counted is.of_window)

-- what is said

capped_twice : (n : ℕ) → capped_tries (capped_tries n) ≡ capped_tries n
capped_twice n = omega arith

-- no lane owes the window a try
abbrev pub OwesNoFinalTry : Setting → List Entry → ℕ → ℕ → Type 0
OwesNoFinalTry s h n w = (lane : LaneId) → lane.shard ≡ n → In (final_tries (debts s h lane)) w → ⊥

abbrev pub SaysFinalTries : Setting → List Said → List Entry → Type 0
SaysFinalTries s old h = (n w : ℕ) → OwesNoFinalTry s h n w → capped_tries (unwrap_or (window_tries_said (filter_map (entry_said s) h ++ old) n w) 0) ≡ window_tries s h n w

-- an entry that brings no try of the window, and leaves its tries
says_quiet : (s : Setting) (old : List Said) (h : List Entry) (e : Entry) (n w : ℕ) → Legal s (e ∷ h) → SaysFinalTries s old h → ((lane : LaneId) → lane.shard ≡ n → BringsFinal s h lane e w → ⊥) → OwesNoFinalTry s (e ∷ h) n w
    → capped_tries (unwrap_or (window_tries_said (filter_map (entry_said s) h ++ old) n w) 0) ≡ window_tries s h n w
says_quiet s old h e n w legal before none owes = before n w (λ lane shard member. elim (stays_owed s h e lane w legal member) [ inl still ↦ owes lane shard still | inr brings ↦ none lane shard brings ])

tried_number : (s : Setting) (h : List Entry) (at : LaneId) (m : ℕ) (d : Debt) (ds : List Debt) (places : List ℕ) (v t k : ℕ) → debt_entry s h at m d ≡ Tried at places (Some v) t k → FinalTriesAre (window_tries s h at.shard) (d ∷ ds) → window_tries s h at.shard v ≡ t
tried_number s h at m (Try own (Some u) number) ds places v t k is are =
    (let window : u ≡ v = cc in let count : number ≡ t = cc in ap (window_tries s h at.shard) (sym window) ∙ are.0 ∙ count)
tried_number s h at m (Try own None number) ds places v t k is are = cc
tried_number s h at m (Success own state) ds places v t k is are = cc
tried_number s h at m (GiveUp own) ds places v t k is are = cc
tried_number s h at m (Close u) ds places v t k is are = cc

tried_window : (s : Setting) (h : List Entry) (lane at : LaneId) (own places : List ℕ) (w v number t m k : ℕ) → debt_entry s h lane m (Try own (Some w) number) ≡ Tried at places (Some v) t k → (lane ≡ at) × (w ≡ v)
tried_window s h lane at own places w v number t m k is = (cc, cc)

says_tried : (s : Setting) (old : List Said) (h : List Entry) (at : LaneId) (places : List ℕ) (v t m : ℕ) → HasStreamFields s.config → Legal s (Tried at places (Some v) t m ∷ h) → SaysFinalTries s old h → SaysFinalTries s old (Tried at places (Some v) t m ∷ h)
says_tried s old h at places v t m fields legal before n w owes =
    elim (cases_Bool ((at.shard == n) && (v == w))) [
      | inl named ↦ (
          let parts = and_parts (at.shard == n) (v == w) named in
          let shard : at.shard ≡ n = eqb-true at.shard n parts.0 in
          let window : v ≡ w = eqb-true v w parts.1 in
          let first = first_debt s h at (Tried at places (Some v) t m) legal.1.1 in
          let are : FinalTriesAre (window_tries s h at.shard) (first.first ∷ drop 1 (debts s h at)) = subst (FinalTriesAre (window_tries s h at.shard)) first.parts ((final_tries_owed s h fields legal.0).numbers at) in
          let number : window_tries s h at.shard v ≡ t = tried_number s h at (last_moment h) first.first (drop 1 (debts s h at)) places v t m first.brings are in
          ap (λ b. capped_tries (unwrap_or (if b then Some t else window_tries_said (filter_map (entry_said s) h ++ old) n w) 0)) named
          ∙ ap capped_tries (sym number) ∙ capped_twice (window_tries_sum s h at.shard v) ∙ ap (λ k. window_tries s h k v) shard ∙ ap (window_tries s h n) window)
      | inr other ↦ ap (λ b. capped_tries (unwrap_or (if b then Some t else window_tries_said (filter_map (entry_said s) h ++ old) n w) 0)) other
          ∙ says_quiet s old h (Tried at places (Some v) t m) n w legal before
          (λ lane shard brings. (
          let same = tried_window s h lane at brings.places places w v brings.number t (last_moment h) m brings.brings in
          both_ways ((at.shard == n) && (v == w)) other
          (and_from (at.shard == n) (v == w) (eq-eqb at.shard n (ap (λ (l : LaneId). l.shard) (sym same.0) ∙ shard)) (eq-eqb v w (sym same.1)))))
          owes
    ]

says_closed : (s : Setting) (old : List Said) (h : List Entry) (at : LaneId) (v m : ℕ) → Legal s (Closed at v m ∷ h) → SaysFinalTries s old h → SaysFinalTries s old (Closed at v m ∷ h)
says_closed s old h at v m legal before n w owes =
    elim (cases_Bool ((at.shard == n) && (v == w))) [
      | inl named ↦ rw named (omega arith)
      | inr other ↦ rw other (says_quiet s old h (Closed at v m) n w legal before (λ lane shard brings. (let is = brings.brings in cc)) owes)
    ]

pub final_tries_stand : (s : Setting) (old : List Said) (h : List Entry) → HasStreamFields s.config → Legal s h → ((n w : ℕ) → unwrap_or (window_tries_said old n w) 0 ≡ found_window_tries s n w) → SaysFinalTries s old h
final_tries_stand s old [] fields legal found n w owes = ap capped_tries (found n w)
final_tries_stand s old (Came k first count m ∷ h) fields legal found n w owes = says_quiet s old h (Came k first count m) n w legal (final_tries_stand s old h fields legal.0 found) (λ lane shard brings. (let is = brings.brings in cc)) owes
final_tries_stand s old (Began at places None m ∷ h) fields legal found n w owes = says_quiet s old h (Began at places None m) n w legal (final_tries_stand s old h fields legal.0 found) (λ lane shard brings. (let is = brings.brings in cc)) owes
final_tries_stand s old (Began at places (Some v) m ∷ h) fields legal found n w owes = says_quiet s old h (Began at places (Some v) m) n w legal (final_tries_stand s old h fields legal.0 found) (λ lane shard brings. (let is = brings.brings in cc)) owes
final_tries_stand s old (Ended at reply m ∷ h) fields legal found n w owes =
    says_quiet s old h (Ended at reply m) n w legal (final_tries_stand s old h fields legal.0 found) (λ lane shard brings. (let is = brings.brings in cc)) owes
    ∙ sym (final_uncounted s h at reply m n w (λ shard counted. owes at shard (counted_owed s h at reply m w counted)))
final_tries_stand s old (Gave by k places f line state m ∷ h) fields legal found n w owes = says_quiet s old h (Gave by k places f line state m) n w legal (final_tries_stand s old h fields legal.0 found) (λ lane shard brings. (let is = brings.brings in cc)) owes
final_tries_stand s old (Tried at places None t m ∷ h) fields legal found n w owes = says_quiet s old h (Tried at places None t m) n w legal (final_tries_stand s old h fields legal.0 found) (λ lane shard brings. (let is = brings.brings in cc)) owes
final_tries_stand s old (Tried at places (Some v) t m ∷ h) fields legal found n w owes = says_tried s old h at places v t m fields legal (final_tries_stand s old h fields legal.0 found) n w owes
final_tries_stand s old (Closed at v m ∷ h) fields legal found n w owes = says_closed s old h at v m legal (final_tries_stand s old h fields legal.0 found) n w owes
final_tries_stand s old (Replayed k places m ∷ h) fields legal found n w owes = absurd legal.1.1
final_tries_stand s old (Shut m ∷ h) fields legal found n w owes = says_quiet s old h (Shut m) n w legal (final_tries_stand s old h fields legal.0 found) (λ lane shard brings. (let is = brings.brings in cc)) owes
