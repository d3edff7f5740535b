-- How the writing of what is owed goes on.
use Rattle.std.proofs.Common.{◌≡◌, List, [], ◌∷◌, ◌++◌, take, drop, reverse, refl, sym, ap, subst, ◌∙◌, append_assoc, take-append-drop}
use Rattle.std.proofs.lemmas.List.{reverse-append}
use Rattle.esm_io.specs.Meanings.{DiskMeaning, DestMeaning}
use Rattle.esm_journal.specs.Pair.{PairState}
use Rattle.esm_book.specs.Decided.{added}
use Rattle.esm_book.specs.Meanings.{CoreMeaning}
use Rattle.esm_book.specs.Growth.{HasAppended, HasDelivered, HasGrown}
use Rattle.esm_book.specs.Writing.{Writes}
use Rattle.esm_book.proofs.Lists.{added_is}
use Rattle.esm_book.proofs.Growing.{grown_then}

reverse_first : {E : Type 0} (entries : List E) → reverse (take 1 entries) ≡ take 1 entries
reverse_first [] = refl
reverse_first (entry ∷ entries) = refl

append_none : {E : Type 0} (entries : List E) → take 1 entries ++ [] ≡ take 1 entries
append_none [] = refl
append_none (entry ∷ entries) = refl

module _ {C E D T : Type 0} (k : CoreMeaning C E) (m : DiskMeaning D) (n : DestMeaning T) where
  -- nothing of it is written yet
  pub writes_none : (core : C) (pair pair' : PairState D) (dest dest' : T) (hand tried : List E) → HasGrown k m n pair pair' dest dest' [] hand tried → Writes k m n (k.history core) (k.owed core) core pair pair' dest dest' [] hand tried
  writes_none core pair pair' dest dest' hand tried grown = record { history_is = refl; due_is = refl; grown = grown }

  -- the first entry is written and paid
  pub writes_first : (core core' : C) (pair pair' : PairState D) (dest dest' : T) → k.history core' ≡ take 1 (k.owed core) ++ k.history core → k.owed core' ≡ drop 1 (k.owed core)
      → HasAppended k m pair pair' (take 1 (k.owed core)) [] → HasDelivered k n dest dest' (take 1 (k.owed core)) [] → Writes k m n (k.history core) (k.owed core) core' pair pair' dest dest' (take 1 (k.owed core)) [] []
  writes_first core core' pair pair' dest dest' history owed appended delivered = record {
    history_is = history ∙ ap (λ l. l ++ k.history core) (sym (reverse_first (k.owed core)));
    due_is = sym (take-append-drop 1 (k.owed core)) ∙ ap (λ l. take 1 (k.owed core) ++ l) (sym owed);
    grown = record { appended = appended; delivered = subst (λ l. HasDelivered k n dest dest' l []) (sym (append_none (k.owed core))) delivered };
  }

  -- the same, with the paid entries named by the history
  pub writes_named : (past due : List E) (core' : C) (pair pair' : PairState D) (dest dest' : T) (paid hand tried : List E) → Writes k m n past due core' pair pair' dest dest' paid hand tried
      → Writes k m n past due core' pair pair' dest dest' (added past (k.history core')) hand tried
  writes_named past due core' pair pair' dest dest' paid hand tried writes = subst (λ l. Writes k m n past due core' pair pair' dest dest' l hand tried) (sym (added_is paid past (k.history core') writes.history_is)) writes

  -- more entries after these
  pub writes_then : (past due : List E) (core' core'' : C) (a b c : PairState D) (d e f : T) (one more hand tried : List E)
      → Writes k m n past due core' a b d e one [] [] → Writes k m n (k.history core') (k.owed core') core'' b c e f more hand tried
      → Writes k m n past due core'' a c d f (added past (k.history core'')) hand tried
  writes_then past due core' core'' a b c d e f one more hand tried first second =
      writes_named past due core'' a c d f (one ++ more) hand tried
      (record {
        history_is =
            second.history_is
            ∙ ap (λ l. reverse more ++ l) first.history_is
            ∙ sym (append_assoc (reverse more) (reverse one) past)
            ∙ ap (λ l. l ++ past) (sym (reverse-append one more));
        due_is = first.due_is ∙ ap (λ l. one ++ l) second.due_is ∙ sym (append_assoc one more (k.owed core''));
        grown = grown_then k m n a b c d e f one more hand tried first.grown second.grown;
      })

  -- after room was made
  pub writes_after : (past due : List E) (core' : C) (a b c : PairState D) (d e f : T) (paid hand tried : List E) → HasGrown k m n a b d e [] [] [] → Writes k m n past due core' b c e f paid hand tried → Writes k m n past due core' a c d f paid hand tried
  writes_after past due core' a b c d e f paid hand tried room writes = record {
    history_is = writes.history_is;
    due_is = writes.due_is;
    grown = grown_then k m n a b c d e f [] paid hand tried room writes.grown;
  }
