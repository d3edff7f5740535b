-- How a journal goes on.
use Rattle.std.proofs.Common.{◌≡◌, ℕ, ◌≤◌, ◌<◌, true, false, List, [], ◌∷◌, ◌++◌, refl, sym, ap, subst, ◌∙◌, arith, append_assoc, append-nil}
use Rattle.std.proofs.lemmas.List.Elements.{filter_map-append}
use Rattle.esm_io.specs.Faults.{IsCount, Rose}
use Rattle.esm_io.specs.Images.{LeavesOnly}
use Rattle.esm_io.specs.Meanings.{DiskMeaning}
use Rattle.esm_io.proofs.Leaving.{started, goes_on, weaker}
use Rattle.esm_journal.specs.File.{header_of, IsFile}
use Rattle.esm_journal.specs.Log.{IsEither}
use Rattle.esm_journal.specs.Pair.{PairState, PairKeepsWhileUp}
use Rattle.esm_book.specs.Decided.{written_of}
use Rattle.esm_book.specs.Meanings.{CoreMeaning}
use Rattle.esm_book.specs.Growth.{HoldsFront, HasAppended}
use Rattle.esm_book.proofs.Lists.{clash, silent_behind}
use Rattle.esm_book.proofs.Fronts.{holds_none, holds_either, holds_more, holds_behind, holds_noted}

pub rose_later : (first mid last : ℕ) → first ≤ mid → Rose mid last → Rose first last
rose_later first mid last le rose few = let rise : mid < last = rose few in omega arith

-- since this moment a disk has no image but those of now
abbrev pub OnlyNow : {D : Type 0} → DiskMeaning D → Type 0
OnlyNow {D} m = (disk : D) (left : List ℕ) → m.honest disk ≡ true → m.since disk (m.moment disk) left → m.image disk left

module _ {C E D : Type 0} (k : CoreMeaning C E) (m : DiskMeaning D) where
  -- nothing was written; room may have been made
  pub appended_none : OnlyNow m → (s : PairState D) → s.down ≡ false → PairKeepsWhileUp m s → (room : List ℕ) → HasAppended k m s (record s { room = room }) [] []
  appended_none only_now s up kept room = record {
    payloads = sym (append-nil s.payloads);
    epoch = refl;
    swapped = refl;
    spare = refl;
    honesty = refl;
    never_falls = omega arith;
    cause = λ down. absurd (clash (sym down ∙ up));
    images = λ h1 h2. started m.moment m.since s.used (HoldsFront k s.epoch s.payloads []) (λ left was.
        let keeps = kept h1 h2 up in
        holds_none k s.epoch s.payloads [] left (subst (IsFile (header_of 2) s.epoch s.payloads) (sym (keeps.durable left (only_now s.used left h1 was))) keeps.file));
    kept = kept;
  }

  -- more entries after these
  pub appended_then : (a b c : PairState D) (one more hand : List E) → HasAppended k m a b one [] → HasAppended k m b c more hand → HasAppended k m a c (one ++ more) hand
  appended_then a b c one more hand first second = record {
    payloads =
        second.payloads
        ∙ ap (λ l. l ++ written_of k.payload more) first.payloads
        ∙ append_assoc a.payloads (written_of k.payload one) (written_of k.payload more)
        ∙ ap (λ l. a.payloads ++ l) (sym (filter_map-append k.payload one more));
    epoch = second.epoch ∙ first.epoch;
    swapped = second.swapped ∙ first.swapped;
    spare = second.spare ∙ first.spare;
    honesty = second.honesty ∙ first.honesty;
    never_falls = omega (arith, first.never_falls, second.never_falls);
    cause = λ down. rose_later (m.faults a.used) (m.faults b.used) (m.faults c.used) first.never_falls (second.cause down);
    images = λ h1 h2.
        goes_on m.moment m.since a.used b.used c.used (HoldsFront k a.epoch a.payloads (one ++ [])) (HoldsFront k b.epoch b.payloads (more ++ hand)) (HoldsFront k a.epoch a.payloads ((one ++ more) ++ hand))
        (first.images h1 h2) (second.images (first.honesty ∙ h1) (ap m.honest first.spare ∙ h2))
        (λ left holds. holds_more k a.epoch a.payloads (one ++ []) (more ++ hand) ((one ++ more) ++ hand) left all holds)
        (λ left holds. holds_behind k a.epoch a.payloads b.payloads one (more ++ hand) ((one ++ more) ++ hand) left (append_assoc one more hand) first.payloads
        (subst (λ n. HoldsFront k n b.payloads (more ++ hand) left) first.epoch holds));
    kept = second.kept;
  }
    where
      all : (one ++ more) ++ hand ≡ (one ++ []) ++ (more ++ hand)
      all = append_assoc one more hand ∙ ap (λ l. l ++ (more ++ hand)) (sym (append-nil one))

  -- and entries of which nothing is written
  pub appended_noted : (a b : PairState D) (paid noted hand : List E) → written_of k.payload noted ≡ [] → HasAppended k m a b paid hand → HasAppended k m a b (paid ++ noted) hand
  appended_noted a b paid noted hand none was = record {
    payloads = was.payloads ∙ ap (λ l. a.payloads ++ l) (sym (silent_behind k.payload paid noted none));
    epoch = was.epoch;
    swapped = was.swapped;
    spare = was.spare;
    honesty = was.honesty;
    never_falls = was.never_falls;
    cause = was.cause;
    images = λ h1 h2. weaker m.moment m.since a.used b.used (HoldsFront k a.epoch a.payloads (paid ++ hand)) (HoldsFront k a.epoch a.payloads ((paid ++ noted) ++ hand)) (was.images h1 h2)
        (λ left holds. holds_noted k a.epoch a.payloads paid noted hand left none holds);
    kept = was.kept;
  }

  -- One payload was being appended, that of these entries.
  module _ (old new : PairState D) (entries : List E) (payload : List ℕ) (is : written_of k.payload entries ≡ payload ∷ []) (up : old.down ≡ false)
      (spare : new.spare ≡ old.spare) (epoch : new.epoch ≡ old.epoch) (swapped : new.swapped ≡ old.swapped)
      (any_moment : m.honest old.used ≡ true → old.down ≡ false → LeavesOnly m.moment m.since old.used new.used (IsEither (header_of 2) old.epoch old.payloads (old.payloads ++ payload ∷ [])))
      (honesty : m.honest new.used ≡ m.honest old.used) (count : IsCount (m.faults old.used) (m.faults new.used)) (kept : PairKeepsWhileUp m new) where
    images_then : (all : List E) → all ≡ entries → m.honest old.used ≡ true → LeavesOnly m.moment m.since old.used new.used (HoldsFront k old.epoch old.payloads all)
    images_then all same h =
        weaker m.moment m.since old.used new.used (IsEither (header_of 2) old.epoch old.payloads (old.payloads ++ payload ∷ [])) (HoldsFront k old.epoch old.payloads all) (any_moment h up)
        (λ left either. holds_either k old.epoch old.payloads all payload left (ap (written_of k.payload) same ∙ is) either)

    -- it stands
    pub appended_one : new.payloads ≡ old.payloads ++ payload ∷ [] → new.down ≡ false → HasAppended k m old new entries []
    appended_one stands still_up = record {
      payloads = stands ∙ ap (λ l. old.payloads ++ l) (sym is);
      epoch = epoch;
      swapped = swapped;
      spare = spare;
      honesty = honesty;
      never_falls = count.never_falls;
      cause = λ down. absurd (clash (sym down ∙ still_up));
      images = λ h1 h2. images_then (entries ++ []) (append-nil entries) h1;
      kept = kept;
    }

    -- a call of the disk failed meanwhile
    pub not_appended : new.payloads ≡ old.payloads → Rose (m.faults old.used) (m.faults new.used) → HasAppended k m old new [] entries
    not_appended same rose = record {
      payloads = same ∙ sym (append-nil old.payloads);
      epoch = epoch;
      swapped = swapped;
      spare = spare;
      honesty = honesty;
      never_falls = count.never_falls;
      cause = λ _. rose;
      images = λ h1 h2. images_then entries refl h1;
      kept = kept;
    }
