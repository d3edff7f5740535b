-- What the journal has of a history and of the entry in hand, over the records that came alone.
use Rattle.std.proofs.Common.{◌≡◌, ◌∙◌, ◌⊎◌, ◌≤◌, ℕ, List, [], ◌∷◌, ◌++◌, length, ap, ap₂, arith, inl, inr, refl, subst, sym}
use Rattle.std.specs.Prelude.{reverse}
use Rattle.std.proofs.lemmas.List.{append-nil, reverse-append, reverse-reverse}
use Rattle.std.proofs.lemmas.List.Elements.{filter_map-append}
use Rattle.esm_model.specs.declared.entry.Entry.{Entry}
use Rattle.esm_model.specs.Setting.{Setting, Stream, Extends}
use Rattle.esm_model.specs.Step.{Legal}
use Rattle.esm_journal_record.specs.EntryPayload.{entry_payload, history_payloads}
use Rattle.esm_ledger.specs.Ledger.{LegalOver}
use Rattle.esm_ledger.specs.Coming.{with_list}
use Rattle.esm_ledger.proofs.Comes.{grown_extends}
use Rattle.esm_stream_core.specs.CoreView.{CoreView, with_coming, full_setting}
use Rattle.esm_stream_book.specs.Books.{payloads_in}
use Rattle.esm_runner.specs.Laws.{PayloadsStay}

pub coming_extends : (ts : List Stream) (parts : List Stream) → Extends ts (with_coming ts parts)
coming_extends ts [] n i r at = at
coming_extends ts (p ∷ parts) n i r at = coming_extends (with_list ts p.shard p.records) parts n i r (grown_extends ts p.shard p.records n i r at)

pub own_legal : (s : Setting) (h : List Entry) → LegalOver s h → Legal s h
own_legal s h legal = legal s.streams (λ n i r at. at)

legal_rest : (s : Setting) (later before : List Entry) → Legal s (later ++ before) → Legal s before
legal_rest s [] before legal = legal
legal_rest s (e ∷ later) before legal = legal_rest s later before legal.0

-- of the first entries of a history
pub front_stays : PayloadsStay → (v : CoreView) → LegalOver v.setting v.past → (front rest : List Entry) → front ++ rest ≡ reverse v.past → payloads_in (full_setting v) front ≡ payloads_in v.setting front
front_stays stay v legal front rest split =
    let turned : v.past ≡ reverse rest ++ reverse front = sym (reverse-reverse v.past) ∙ (ap reverse (sym split) ∙ reverse-append front rest) in
    let before : Legal v.setting (reverse front) = legal_rest v.setting (reverse rest) (reverse front) (subst (Legal v.setting) turned (own_legal v.setting v.past legal)) in
    let same : history_payloads (full_setting v) (reverse front) ≡ history_payloads v.setting (reverse front) =
    stay v.setting (with_coming v.setting.streams v.coming) (reverse front) (coming_extends v.setting.streams v.coming) before in
    subst (λ (es : List Entry). payloads_in (full_setting v) es ≡ payloads_in v.setting es) (reverse-reverse front) same

pub all_stay : PayloadsStay → (v : CoreView) → LegalOver v.setting v.past → payloads_in (full_setting v) (reverse v.past) ≡ payloads_in v.setting (reverse v.past)
all_stay stay v legal = front_stays stay v legal (reverse v.past) [] (append-nil (reverse v.past))

-- the first ones of a list with at most one more behind it are first ones of the list, or all
pub split_one : {A : Type 0} (front rest es hand : List A) → length hand ≤ 1 → front ++ rest ≡ es ++ hand → ((more : List A) × (front ++ more ≡ es)) ⊎ (front ≡ es ++ hand)
split_one [] rest es hand few split = inl (es, refl)
split_one {A} (x ∷ []) rest [] hand few split = inr (only hand few split)
  where
    only : (ys : List A) → length ys ≤ 1 → x ∷ rest ≡ ys → x ∷ [] ≡ ys
    only [] low is = absurd (cc)
    only (y ∷ []) low is = let same : x ≡ y = cc in cc
    only (y ∷ z ∷ ys) low is = absurd (omega (arith, low))
split_one (x ∷ z ∷ front) rest [] hand few split = absurd (let long : length (x ∷ z ∷ (front ++ rest)) ≡ length hand = ap length split in omega (arith, long, few))
split_one {A} (x ∷ front) rest (y ∷ es) hand few split =
    let first : x ≡ y = cc in
    let others : front ++ rest ≡ es ++ hand = cc in
    elim (split_one front rest es hand few others) [
      | inl within ↦ inl (within.0, ap₂ (λ (a : A) (b : List A). a ∷ b) first within.1)
      | inr all ↦ inr (ap₂ (λ (a : A) (b : List A). a ∷ b) first all)
    ]

-- of the first entries of a history and what is in hand
pub left_stays : PayloadsStay → (v : CoreView) → LegalOver v.setting v.past → (hand front rest : List Entry) → length hand ≤ 1 → payloads_in (full_setting v) hand ≡ payloads_in v.setting hand
    → front ++ rest ≡ reverse v.past ++ hand → payloads_in (full_setting v) front ≡ payloads_in v.setting front
left_stays stay v legal hand front rest few same split =
    elim (split_one front rest (reverse v.past) hand few split) [
      | inl within ↦ front_stays stay v legal front within.0 within.1
      | inr all ↦ (
          let parts : payloads_in (full_setting v) (reverse v.past ++ hand) ≡ payloads_in v.setting (reverse v.past ++ hand) =
          filter_map-append (entry_payload (full_setting v)) (reverse v.past) hand
          ∙ (ap₂ (λ (xs ys : List (List ℕ)). xs ++ ys) (all_stay stay v legal) same
          ∙ sym (filter_map-append (entry_payload v.setting) (reverse v.past) hand)) in
          subst (λ (es : List Entry). payloads_in (full_setting v) es ≡ payloads_in v.setting es) (sym all) parts)
    ]
