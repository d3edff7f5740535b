-- What a content says of records' tries is what the history that wrote it knows, but for what its ends of calls still owe.
-- Only this crate's proofs cite this.
use Rattle.std.proofs.Common.{◌≡◌, ℕ, zero, suc, ◌+◌, Bool, true, false, not, ◌&&◌, List, [], ◌∷◌, ◌++◌, take, drop, refl, sym, ap, ◌∙◌, subst, ◌⊎◌, inl, inr, arith, Option, Some, None}
use Rattle.std.specs.Prelude.{◌==◌, filter_map, is_some, option_map, unwrap_or, slice_index, if◌then◌else◌}
use Rattle.std.specs.Option.{option_or}
use Rattle.std.proofs.lemmas.Bool.{cases_Bool, and_parts, and_from, eqb-true, eq-eqb, both_ways, not-true}
use Rattle.esm_model.specs.Lane.{same_lane}
use Rattle.esm_model.specs.declared.lane.LaneId.{LaneId}
use Rattle.esm_model.specs.declared.entry.Reply.{Reply}
use Rattle.esm_model.specs.declared.entry.Fate.{Fate}
use Rattle.esm_model.specs.declared.entry.Fate.TheVariants.{Succeeded, Filtered, Expired, Exhausted}
use Rattle.esm_model.specs.declared.entry.WindowState.{WindowState}
use Rattle.esm_model.specs.declared.entry.Entry.{Entry}
use Rattle.esm_model.specs.declared.entry.Entry.TheVariants.{Came, Began, Ended, Gave, Tried, Closed, Replayed, Shut}
use Rattle.esm_model.specs.declared.verdict.Rest.{Rest}
use Rattle.esm_model.specs.declared.verdict.Rest.TheVariants as rest
use Rattle.esm_model.specs.declared.verdict.Verdict.{Verdict}
use Rattle.esm_model.specs.Setting.{Setting, sequences_at, found_tries}
use Rattle.esm_model.specs.Entries.{Call, holds, is_running, last_call, last_moment}
use Rattle.esm_model.specs.Fates.{lacks_fate}
use Rattle.esm_model.specs.Ruling.{capped_tries, is_counted}
use Rattle.esm_model.specs.Tries.{tries, tries_sum, counts_in_call, call_verdict, verdict_on, verdict_after}
use Rattle.esm_model.specs.Owed.{Debt, Success, GiveUp, Try, Close, debts, debt_entry, call_debts, success_debts, rest_debts, new_state, IsOwed}
use Rattle.esm_model.specs.Step.{Legal}
use Rattle.esm_model.proofs.Lists.{In, In-none, In-append_left, In-append_right, In-append_cases}
use Rattle.esm_model.proofs.Steps.{debts_ended, lacks_gave}
use Rattle.esm_model.proofs.Debts.{first_debt, debt_paid}
use Rattle.esm_model.proofs.Sound.{same_lane-true, sound}
use Rattle.esm_model.proofs.NamedPlaces.{names_came}
use Rattle.esm_journal_record.specs.declared.said.Said.{Said}
use Rattle.esm_journal_record.specs.EntryPayload.{entry_said}
use Rattle.esm_journal_state.specs.declared.kept.KeptTries.{KeptTries}
use Rattle.esm_journal_state.specs.Meaning.{text_named, only_at, tries_kept, tries_said}
use Rattle.esm_history.proofs.Windows.{good_calls}
use Rattle.esm_history.proofs.Saids.{covered_stand, text_there}
use Rattle.esm_history.proofs.OwedTries.{try_places, TriesAre, try_append, call_of, tries_owed}

-- the number of tries that is said, or 0
abbrev pub number_said : Option KeptTries → ℕ
number_said o = unwrap_or (option_map (λ (k : KeptTries). k.tries) o) 0

-- what is owed stays owed, or the entry brings it

record BringsTry (s : Setting) (h : List Entry) (lane : LaneId) (e : Entry) (i : ℕ) : Type 0 where
  places : List ℕ
  number : ℕ
  inside : In places i
  brings : debt_entry s h lane (last_moment h) (Try places None number) ≡ e

abbrev StaysTrying : Setting → List Entry → Entry → LaneId → ℕ → Type 0
StaysTrying s h e lane i = In (try_places (debts s (e ∷ h) lane)) i ⊎ BringsTry s h lane e i

record FirstTry (d : Debt) (i : ℕ) : Type 0 where
  places : List ℕ
  number : ℕ
  inside : In places i
  is : d ≡ Try places None number

first_try : (d : Debt) (ds : List Debt) (i : ℕ) → In (try_places (d ∷ ds)) i → FirstTry d i ⊎ In (try_places ds) i
first_try (Try places None k) ds i member =
    elim (In-append_cases places (try_places ds) i member) [
      | inl here ↦ inl (record { places = places; number = k; inside = here; is = refl })
      | inr there ↦ inr there
    ]
first_try (Try places (Some w) k) ds i member = inr member
first_try (Success places state) ds i member = inr member
first_try (GiveUp places) ds i member = inr member
first_try (Close w) ds i member = inr member

paid_tries : (s : Setting) (h : List Entry) (at lane : LaneId) (e : Entry) (i : ℕ) → same_lane at lane ≡ true → IsOwed s h at e → In (try_places (debts s h lane)) i → StaysTrying s h e lane i
paid_tries s h at lane e i same owed member = subst (λ l. In (try_places (debts s h l)) i → StaysTrying s h e l i) (same_lane-true at lane same) own member
  where
    own : In (try_places (debts s h at)) i → StaysTrying s h e at i
    own there =
        let first = first_debt s h at e owed in
        elim (first_try first.first (drop 1 (debts s h at)) i (subst (λ ds. In (try_places ds) i) first.parts there)) [
          | inl is ↦ inr (record { places = is.places; number = is.number; inside = is.inside; brings = ap (debt_entry s h at (last_moment h)) (sym is.is) ∙ first.brings })
          | inr rest ↦ inl (subst (λ ds. In (try_places ds) i) (sym (debt_paid s h at e owed)) rest)
        ]

none_owed : (s : Setting) (h : List Entry) (lane : LaneId) (i : ℕ) → debts s h lane ≡ [] → In (try_places (debts s h lane)) i → ⊥
none_owed s h lane i none member = In-none i (subst (λ ds. In (try_places ds) i) none member)

stays_trying : (s : Setting) (h : List Entry) (e : Entry) (lane : LaneId) (i : ℕ) → Legal s (e ∷ h) → In (try_places (debts s h lane)) i → StaysTrying s h e lane i
stays_trying s h (Came n first count m) lane i legal member = inl member
stays_trying s h (Replayed n places m) lane i legal member = inl member
stays_trying s h (Shut m) lane i legal member = inl member
stays_trying s h (Began at places None m) lane i legal member = absurd (none_owed s h lane i (legal.1.1.call.settled.paid lane) member)
stays_trying s h (Began at places (Some v) m) lane i legal member = absurd (none_owed s h lane i (legal.1.1.call.settled.paid lane) member)
stays_trying s h (Ended at reply m) lane i legal member =
    elim (cases_Bool (same_lane at lane)) [
      | inl same ↦ absurd (none_owed s h lane i ((sound s h legal.0 lane).quiet (subst (λ l. is_running h l ≡ true) (same_lane-true at lane same) legal.1.1)) member)
      | inr other ↦ inl (rw other member)
    ]
stays_trying s h (Gave None n places f line state m) lane i legal member = inl member
stays_trying s h (Gave (Some at) n places Filtered line state m) lane i legal member = absurd legal.1.1
stays_trying s h (Gave (Some at) n places Expired line state m) lane i legal member = absurd (none_owed s h lane i (legal.1.1.settled.paid lane) member)
stays_trying s h (Gave (Some at) n places Succeeded line state m) lane i legal member =
    elim (cases_Bool (same_lane at lane)) [ inl same ↦ paid_tries s h at lane (Gave (Some at) n places Succeeded line state m) i same legal.1.1 member | inr other ↦ inl (rw other member) ]
stays_trying s h (Gave (Some at) n places Exhausted line state m) lane i legal member =
    elim (cases_Bool (same_lane at lane)) [ inl same ↦ paid_tries s h at lane (Gave (Some at) n places Exhausted line state m) i same legal.1.1 member | inr other ↦ inl (rw other member) ]
stays_trying s h (Tried at places c t m) lane i legal member =
    elim (cases_Bool (same_lane at lane)) [ inl same ↦ paid_tries s h at lane (Tried at places c t m) i same legal.1.1 member | inr other ↦ inl (rw other member) ]
stays_trying s h (Closed at v m) lane i legal member =
    elim (cases_Bool (same_lane at lane)) [ inl same ↦ paid_tries s h at lane (Closed at v m) i same legal.1.1 member | inr other ↦ inl (rw other member) ]

-- what is counted is owed

drop_none : (k i : ℕ) → In (drop k []) i → In [] i
drop_none zero i member = member
drop_none (suc k) i member = member

counted_owed : (s : Setting) (h : List Entry) (at : LaneId) (reply : Reply) (m i : ℕ) (o : Option Call) → Legal s (Ended at reply m ∷ h) → last_call h at ≡ o → counts_in_call s at.shard o (tries_sum s h at.shard) reply i ≡ true → In (try_places (call_debts s h at o reply)) i
counted_owed s h at reply m i None legal last is = cc
counted_owed s h at reply m i (Some call) legal last is = by_closing call.closing refl
  where
    in_rest : (left : Rest) (ds : List Debt) (xs : List ℕ) (t : ℕ) → is_counted left ≡ true → In xs i → In (try_places (ds ++ rest_debts left xs None t)) i
    in_rest rest.Counted ds xs t counted member = subst (λ ys. In ys i) (sym (try_append ds (Try xs None (capped_tries (t + 1)) ∷ []))) (In-append_right (try_places ds) (xs ++ []) i (In-append_left xs [] i member))
    in_rest rest.Nothing ds xs t counted member = cc
    in_rest rest.Again ds xs t counted member = cc
    in_rest (rest.Split k) ds xs t counted member = cc
    in_rest rest.Exhausted ds xs t counted member = cc

    explicit : (places : List ℕ) (k : ℕ) → last_call h at ≡ Some (call_of places k) → counts_in_call s at.shard (Some (call_of places k)) (tries_sum s h at.shard) reply i ≡ true → In (try_places (call_debts s h at (Some (call_of places k)) reply)) i
    explicit places k last_is counted =
        let v = call_verdict s at.shard (call_of places k) (tries s h at.shard (slice_index places 0)) reply in
        let same : verdict_after s h at reply ≡ v = ap (λ o. verdict_on s h at.shard o reply) last_is in
        let parts = and_parts (is_counted v.rest) (holds (drop v.succeeded places) i) counted in
        subst (λ (x : Verdict). In (try_places (success_debts (take x.succeeded places) (new_state s at.shard (call_of places k) reply) ++ rest_debts x.rest (drop x.succeeded places) None (tries s h at.shard (slice_index places 0)))) i) (sym same)
        (in_rest v.rest (success_debts (take v.succeeded places) (new_state s at.shard (call_of places k) reply)) (drop v.succeeded places) (tries s h at.shard (slice_index places 0)) parts.0 parts.1)

    by_closing : (c : Option ℕ) → call.closing ≡ c → In (try_places (call_debts s h at (Some call) reply)) i
    by_closing (Some w) closing =
        let v = call_verdict s at.shard call (capped_tries (tries_sum s h at.shard (slice_index call.places 0))) reply in
        let parts = and_parts (is_counted v.rest) (holds (drop v.succeeded call.places) i) is in
        absurd (In-none i (drop_none v.succeeded i (subst (λ xs. In (drop v.succeeded xs) i) ((good_calls s h legal.0 at call last).empty w closing) parts.1)))
    by_closing None closing =
        let call_is : call ≡ record { places = call.places; closing = None; moment = call.moment } = ap (λ (c : Option ℕ). record { places = call.places; closing = c; moment = call.moment }) closing in
        let last_is : last_call h at ≡ Some (call_of call.places call.moment) = last ∙ ap (λ (c : Call). Some c) call_is in
        subst (λ (c : Call). In (try_places (call_debts s h at (Some c) reply)) i) (sym call_is)
        (explicit call.places call.moment last_is (subst (λ (c : Call). counts_in_call s at.shard (Some c) (tries_sum s h at.shard) reply i ≡ true) call_is is))

-- tries that no end counted stay
uncounted : (s : Setting) (h : List Entry) (at : LaneId) (reply : Reply) (m n i : ℕ) → Legal s (Ended at reply m ∷ h) → ((lane : LaneId) → lane.shard ≡ n → In (try_places (debts s (Ended at reply m ∷ h) lane)) i → ⊥) → tries s (Ended at reply m ∷ h) n i ≡ tries s h n i
uncounted s h at reply m n i legal none =
    elim (cases_Bool ((at.shard == n) && counts_in_call s n (last_call h at) (tries_sum s h n) reply i)) [
      | inr not ↦ rw not refl
      | inl counted ↦ (
          let parts = and_parts (at.shard == n) (counts_in_call s n (last_call h at) (tries_sum s h n) reply i) counted in
          let shard : at.shard ≡ n = eqb-true at.shard n parts.0 in
          let counts : counts_in_call s at.shard (last_call h at) (tries_sum s h at.shard) reply i ≡ true = subst (λ k. counts_in_call s k (last_call h at) (tries_sum s h k) reply i ≡ true) (sym shard) parts.1 in
          absurd (none at shard (subst (λ ds. In (try_places ds) i) (sym (debts_ended s at reply m h)) (counted_owed s h at reply m i (last_call h at) legal refl counts))))
    ]

-- one entry

capped_twice : (n : ℕ) → capped_tries (capped_tries n) ≡ capped_tries n
capped_twice n = omega arith

-- a payload of kind 5 says the number of the places that it names, and no other
said_named : (b : Bool) (t : Option (List ℕ)) (k : ℕ) (before : Option KeptTries) → b ≡ true → is_some t ≡ true → number_said (option_or (only_at b (option_map (tries_kept k) t)) before) ≡ k
said_named false t k before here named = cc
said_named true None k before here named = cc
said_named true (Some text) k before here named = refl

said_other : (b : Bool) (t : Option (List ℕ)) (k : ℕ) (before : Option KeptTries) → (b && is_some t) ≡ false → option_or (only_at b (option_map (tries_kept k) t)) before ≡ before
said_other false t k before other = refl
said_other true None k before other = refl
said_other true (Some text) k before other = cc

-- no lane owes the record a try
abbrev pub OwesNoTry : Setting → List Entry → ℕ → ℕ → Type 0
OwesNoTry s h n i = (lane : LaneId) → lane.shard ≡ n → In (try_places (debts s h lane)) i → ⊥

abbrev pub SaysTries : Setting → List Said → List Entry → Type 0
SaysTries s old h = (n i : ℕ) → lacks_fate s h n i ≡ true → OwesNoTry s h n i → capped_tries (number_said (tries_said (filter_map (entry_said s) h ++ old) n i)) ≡ tries s h n i

-- an entry that brings no try of a record, and leaves its tries
says_quiet : (s : Setting) (old : List Said) (h : List Entry) (e : Entry) (n i : ℕ) → Legal s (e ∷ h) → SaysTries s old h → ((lane : LaneId) → lane.shard ≡ n → BringsTry s h lane e i → ⊥) → lacks_fate s h n i ≡ true → OwesNoTry s (e ∷ h) n i
    → capped_tries (number_said (tries_said (filter_map (entry_said s) h ++ old) n i)) ≡ tries s h n i
says_quiet s old h e n i legal before none lacks owes = before n i lacks (λ lane shard member. elim (stays_trying s h e lane i legal member) [ inl still ↦ owes lane shard still | inr brings ↦ none lane shard brings ])

lacks_earlier : (s : Setting) (h : List Entry) (by : Option LaneId) (k : ℕ) (places : List ℕ) (f : Fate) (line : Option (List ℕ)) (state : Option WindowState) (m n i : ℕ) → lacks_fate s (Gave by k places f line state m ∷ h) n i ≡ true → (lacks_fate s h n i ≡ true) × (((k == n) && holds places i) ≡ false)
lacks_earlier s h by k places f line state m n i lacks =
    (let both : (lacks_fate s h n i && not ((k == n) && holds places i)) ≡ true = sym (lacks_gave s by k places f line state m h n i) ∙ lacks in
    let parts = and_parts (lacks_fate s h n i) (not ((k == n) && holds places i)) both in
    (parts.0, not-true ((k == n) && holds places i) parts.1))

tried_number : (s : Setting) (h : List Entry) (at : LaneId) (m : ℕ) (d : Debt) (ds : List Debt) (places : List ℕ) (t k : ℕ) → debt_entry s h at m d ≡ Tried at places None t k → TriesAre (tries s h at.shard) (d ∷ ds) → (i : ℕ) → In places i → tries s h at.shard i ≡ t
tried_number s h at m (Try own None number) ds places t k is are i member =
    (let same : own ≡ places = cc in let count : number ≡ t = cc in are.0 i (subst (λ xs. In xs i) (sym same) member) ∙ count)
tried_number s h at m (Try own (Some w) number) ds places t k is are i member = cc
tried_number s h at m (Success own state) ds places t k is are i member = cc
tried_number s h at m (GiveUp own) ds places t k is are i member = cc
tried_number s h at m (Close w) ds places t k is are i member = cc

tried_places : (s : Setting) (h : List Entry) (lane at : LaneId) (own places : List ℕ) (number t m k : ℕ) → debt_entry s h lane m (Try own None number) ≡ Tried at places None t k → (lane ≡ at) × (own ≡ places)
tried_places s h lane at own places number t m k is = (cc, cc)

says_tried : (s : Setting) (old : List Said) (h : List Entry) (at : LaneId) (places : List ℕ) (t m : ℕ) → Legal s (Tried at places None t m ∷ h) → SaysTries s old h → SaysTries s old (Tried at places None t m ∷ h)
says_tried s old h at places t m legal before n i lacks owes =
    elim (cases_Bool ((at.shard == n) && holds places i)) [
      | inl named ↦ (
          let parts = and_parts (at.shard == n) (holds places i) named in
          let shard : at.shard ≡ n = eqb-true at.shard n parts.0 in
          let first = first_debt s h at (Tried at places None t m) legal.1.1 in
          let are : TriesAre (tries s h at.shard) (first.first ∷ drop 1 (debts s h at)) = subst (TriesAre (tries s h at.shard)) first.parts ((tries_owed s h legal.0).numbers at) in
          let number : tries s h at.shard i ≡ t = tried_number s h at (last_moment h) first.first (drop 1 (debts s h at)) places t m first.brings are i parts.1 in
          let said : number_said (option_or (only_at (at.shard == n) (option_map (tries_kept t) (text_named places (sequences_at s at.shard places) i))) (tries_said (filter_map (entry_said s) h ++ old) n i)) ≡ t =
          said_named (at.shard == n) (text_named places (sequences_at s at.shard places) i) t (tries_said (filter_map (entry_said s) h ++ old) n i) parts.0
          (text_there s at.shard places (covered_stand s h at.shard places legal.0 (names_came s h (Tried at places None t m) legal)) i ∙ parts.1) in
          ap capped_tries said ∙ ap capped_tries (sym number) ∙ capped_twice (tries_sum s h at.shard i) ∙ ap (λ k. tries s h k i) shard)
      | inr other ↦ (
          let there : is_some (text_named places (sequences_at s at.shard places) i) ≡ holds places i =
          text_there s at.shard places (covered_stand s h at.shard places legal.0 (names_came s h (Tried at places None t m) legal)) i in
          let out : ((at.shard == n) && is_some (text_named places (sequences_at s at.shard places) i)) ≡ false = ap (λ b. (at.shard == n) && b) there ∙ other in
          ap (λ o. capped_tries (number_said o)) (said_other (at.shard == n) (text_named places (sequences_at s at.shard places) i) t (tries_said (filter_map (entry_said s) h ++ old) n i) out)
          ∙ says_quiet s old h (Tried at places None t m) n i legal before
          (λ lane shard brings. (
          let same = tried_places s h lane at brings.places places brings.number t (last_moment h) m brings.brings in
          both_ways ((at.shard == n) && holds places i) other
          (and_from (at.shard == n) (holds places i) (eq-eqb at.shard n (ap (λ (l : LaneId). l.shard) (sym same.0) ∙ shard)) (subst (λ xs. In xs i) same.1 brings.inside))))
          lacks owes)
    ]

pub tries_stand : (s : Setting) (old : List Said) (h : List Entry) → Legal s h → ((n i : ℕ) → number_said (tries_said old n i) ≡ found_tries s n i) → SaysTries s old h
tries_stand s old [] legal found n i lacks owes = ap capped_tries (found n i)
tries_stand s old (Came k first count m ∷ h) legal found n i lacks owes = says_quiet s old h (Came k first count m) n i legal (tries_stand s old h legal.0 found) (λ lane shard brings. (let is = brings.brings in cc)) lacks owes
tries_stand s old (Began at places None m ∷ h) legal found n i lacks owes = says_quiet s old h (Began at places None m) n i legal (tries_stand s old h legal.0 found) (λ lane shard brings. (let is = brings.brings in cc)) lacks owes
tries_stand s old (Began at places (Some w) m ∷ h) legal found n i lacks owes = says_quiet s old h (Began at places (Some w) m) n i legal (tries_stand s old h legal.0 found) (λ lane shard brings. (let is = brings.brings in cc)) lacks owes
tries_stand s old (Ended at reply m ∷ h) legal found n i lacks owes =
    says_quiet s old h (Ended at reply m) n i legal (tries_stand s old h legal.0 found) (λ lane shard brings. (let is = brings.brings in cc)) lacks owes
    ∙ sym (uncounted s h at reply m n i legal owes)
tries_stand s old (Gave by k places f line state m ∷ h) legal found n i lacks owes =
    (let earlier = lacks_earlier s h by k places f line state m n i lacks in
    ap (λ b. capped_tries (number_said (if b then None else tries_said (filter_map (entry_said s) h ++ old) n i))) earlier.1
    ∙ says_quiet s old h (Gave by k places f line state m) n i legal (tries_stand s old h legal.0 found) (λ lane shard brings. (let is = brings.brings in cc)) earlier.0 owes)
tries_stand s old (Tried at places None t m ∷ h) legal found n i lacks owes = says_tried s old h at places t m legal (tries_stand s old h legal.0 found) n i lacks owes
tries_stand s old (Tried at places (Some w) t m ∷ h) legal found n i lacks owes = says_quiet s old h (Tried at places (Some w) t m) n i legal (tries_stand s old h legal.0 found) (λ lane shard brings. (let is = brings.brings in cc)) lacks owes
tries_stand s old (Closed at w m ∷ h) legal found n i lacks owes = says_quiet s old h (Closed at w m) n i legal (tries_stand s old h legal.0 found) (λ lane shard brings. (let is = brings.brings in cc)) lacks owes
tries_stand s old (Replayed k places m ∷ h) legal found n i lacks owes = absurd legal.1.1
tries_stand s old (Shut m ∷ h) legal found n i lacks owes = says_quiet s old h (Shut m) n i legal (tries_stand s old h legal.0 found) (λ lane shard brings. (let is = brings.brings in cc)) lacks owes
