-- What a replay left in the journal is what the older of its entries say. Only this crate's proofs cite this.
use Rattle.std.proofs.Common.{◌≡◌, ℕ, ◌≤◌, List, [], ◌∷◌, ◌++◌, length, refl, sym, ap, ap₂, ◌∙◌, subst, arith, append-nil, Option, Some, None}
use Rattle.std.specs.Prelude.{filter_map, reverse}
use Rattle.std.specs.List.{cons_option}
use Rattle.std.proofs.lemmas.List.{reverse-append, reverse-reverse}
use Rattle.esm_model.specs.declared.entry.Entry.{Entry}
use Rattle.esm_model.specs.Setting.{Setting}
use Rattle.esm_journal_record.specs.EntryPayload.{entry_payload, history_payloads, AllMayBeSaid}
use Rattle.esm_replay_model.specs.ReplayRun.{IsReplay}
use Rattle.esm_replay_model.proofs.Runs.{front_at}
use Rattle.esm_replay_life.specs.ReplayLife.{ReplayRun, IsReplayRunOver}

-- a front of payloads is that of a front of the entries
record EntriesOf (f : Entry → Option (List ℕ)) (es : List Entry) (front : List (List ℕ)) : Type 0 where
  one : List Entry
  two : List Entry
  split : es ≡ one ++ two
  exact : front ≡ filter_map f one

more_by : (f : Entry → Option (List ℕ)) (e : Entry) (es : List Entry) (front rest : List (List ℕ)) (o : Option (List ℕ)) → f e ≡ o → ((xs : List (List ℕ)) → xs ++ rest ≡ filter_map f es → EntriesOf f es xs)
    → front ++ rest ≡ cons_option o (filter_map f es) → EntriesOf f (e ∷ es) front
more_by f e es [] rest o at further is = record { one = []; two = e ∷ es; split = refl; exact = refl }
more_by f e es (p ∷ front) rest None at further is =
    let found = further (p ∷ front) is in
    record {
      one = e ∷ found.one;
      two = found.two;
      split = ap (λ (xs : List Entry). e ∷ xs) found.split;
      exact = found.exact ∙ sym (ap (λ (o : Option (List ℕ)). cons_option o (filter_map f found.one)) at);
    }
more_by f e es (p ∷ front) rest (Some q) at further is =
    let same : p ≡ q = cc in
    let behind : front ++ rest ≡ filter_map f es = cc in
    let found = further front behind in
    record {
      one = e ∷ found.one;
      two = found.two;
      split = ap (λ (xs : List Entry). e ∷ xs) found.split;
      exact = ap₂ (λ (x : List ℕ) (xs : List (List ℕ)). x ∷ xs) same found.exact ∙ sym (ap (λ (o : Option (List ℕ)). cons_option o (filter_map f found.one)) at);
    }

entries_of : (f : Entry → Option (List ℕ)) (es : List Entry) (front rest : List (List ℕ)) → front ++ rest ≡ filter_map f es → EntriesOf f es front
entries_of f [] [] rest is = record { one = []; two = []; split = refl; exact = refl }
entries_of f [] (p ∷ front) rest is = absurd (cc)
entries_of f (e ∷ es) front rest is = more_by f e es front rest (f e) refl (λ xs now. entries_of f es xs rest now) is

with_hand : (hand h : List Entry) → length hand ≤ 1 → reverse h ++ hand ≡ reverse (hand ++ h)
with_hand [] h few = append-nil (reverse h)
with_hand (e ∷ []) h few = sym (reverse-append (e ∷ []) h)
with_hand (e ∷ x ∷ hand) h few = absurd (omega arith)

pub said_front : (s : Setting) (later h : List Entry) → AllMayBeSaid s (later ++ h) → AllMayBeSaid s h
said_front s [] h may = may
said_front s (e ∷ later) h may = said_front s later h may.0

-- what of the history its journal kept
pub record Recorded (r : ReplayRun) : Type 0 where
  pub recorded : List Entry
  pub lost : List Entry
  pub split : r.hand ++ r.happened ≡ lost ++ recorded
  pub left : r.left ≡ history_payloads r.setting.base recorded
  pub run : IsReplay r.setting recorded
  pub may : AllMayBeSaid r.setting.base recorded

pub recorded_of : (r : ReplayRun) (old : List (List ℕ)) → IsReplayRunOver r old → Recorded r
recorded_of r old is =
    let of = entries_of (entry_payload r.setting.base) (reverse r.happened ++ r.hand) r.left is.rest is.kept in
    let all : reverse (r.hand ++ r.happened) ≡ of.one ++ of.two = sym (with_hand r.hand r.happened is.in_hand) ∙ of.split in
    let split : r.hand ++ r.happened ≡ reverse of.two ++ reverse of.one = sym (reverse-reverse (r.hand ++ r.happened)) ∙ (ap reverse all ∙ reverse-append of.one of.two) in
    record {
      recorded = reverse of.one;
      lost = reverse of.two;
      split = split;
      left = of.exact ∙ ap (filter_map (entry_payload r.setting.base)) (sym (reverse-reverse of.one));
      run = front_at r.setting (r.hand ++ r.happened) (reverse of.two) (reverse of.one) is.hand_is_run split;
      may = said_front r.setting.base (reverse of.two) (reverse of.one) (subst (AllMayBeSaid r.setting.base) split is.may_be_said);
    }
