-- How a journal and a destination go on together, and what a crash leaves of them.
use Rattle.std.proofs.Common.{◌≡◌, ℕ, false, List, [], ◌++◌, length, refl, sym, ap, subst, ◌∙◌, append_assoc, append-nil}
use Rattle.esm_io.specs.Meanings.{DiskMeaning, DestMeaning}
use Rattle.esm_journal.specs.File.{header_of, IsFile}
use Rattle.esm_journal.specs.Pair.{PairState, PairKeepsWhileUp, IsSpare, PairOpensTo}
use Rattle.esm_book.specs.Decided.{written_of}
use Rattle.esm_book.specs.Meanings.{CoreMeaning}
use Rattle.esm_book.specs.Growth.{HasAppended, HasDelivered, HasGrown, LeavesFronts}
use Rattle.esm_book.specs.Answers.{IsSameDest}
use Rattle.esm_book.proofs.Lists.{grows_none}
use Rattle.esm_book.proofs.Appending.{OnlyNow, appended_none, appended_then, appended_noted}
use Rattle.esm_book.proofs.Delivering.{delivered_silent, delivered_then, delivered_noted, told_front}

-- the law of a file beside a spare, as `esm_journal` states it
abbrev pub OpensBeside : Type 0
OpensBeside = (header : List ℕ) (epoch : ℕ) (payloads : List (List ℕ)) (used spare : List ℕ) → length header ≡ 8 → IsFile header epoch payloads used → IsSpare header epoch spare → PairOpensTo header epoch payloads used spare

module _ {C E D T : Type 0} (k : CoreMeaning C E) (m : DiskMeaning D) (n : DestMeaning T) where
  -- nothing was written; room may have been made
  pub grown_none : OnlyNow m → (pair pair' : PairState D) (dest dest' : T) → pair.down ≡ false → n.failed dest ≡ false → PairKeepsWhileUp m pair
      → pair' ≡ record pair { room = pair'.room } → IsSameDest n dest dest' → HasGrown k m n pair pair' dest dest' [] [] []
  grown_none only_now pair pair' dest dest' up usable kept room same = record {
    appended = subst (λ (p : PairState D). HasAppended k m pair p [] []) (sym room) (appended_none k m only_now pair up kept pair'.room);
    delivered = delivered_silent k n dest dest' [] refl same usable;
  }

  -- more entries after these
  pub grown_then : (a b c : PairState D) (d e f : T) (one more hand tried : List E) → HasGrown k m n a b d e one [] [] → HasGrown k m n b c e f more hand tried → HasGrown k m n a c d f (one ++ more) hand tried
  grown_then a b c d e f one more hand tried first second = record {
    appended = appended_then k m a b c one more hand first.appended second.appended;
    delivered = subst (λ l. HasDelivered k n d f l tried) (sym all) (delivered_then k n d e f (one ++ []) (more ++ hand) tried first.delivered second.delivered);
  }
    where
      all : (one ++ more) ++ hand ≡ (one ++ []) ++ (more ++ hand)
      all = append_assoc one more hand ∙ ap (λ l. l ++ (more ++ hand)) (sym (append-nil one))

  -- and entries of which nothing is written
  pub grown_noted : (a b : PairState D) (d e : T) (paid noted hand tried : List E) → written_of k.payload noted ≡ [] → written_of k.line noted ≡ []
      → HasGrown k m n a b d e paid hand tried → HasGrown k m n a b d e (paid ++ noted) hand tried
  grown_noted a b d e paid noted hand tried no_payload no_line was = record {
    appended = appended_noted k m a b paid noted hand no_payload was.appended;
    delivered = delivered_noted k n d e paid noted hand tried no_line was.delivered;
  }

  -- what images of both disks open to
  pub grown_opens : OpensBeside → OnlyNow m → (pair pair' : PairState D) (dest dest' : T) (paid hand tried : List E) → pair.down ≡ false → PairKeepsWhileUp m pair
      → HasGrown k m n pair pair' dest dest' paid hand tried → LeavesFronts k m n pair pair' dest dest' (paid ++ hand)
  grown_opens law only_now pair pair' dest dest' paid hand tried up kept grown h1 h2 one other was was_other =
      let held = (grown.appended.images h1 h2).each one was in
      let keeps = kept h1 h2 up in
      let still = keeps.spare_durable other (only_now pair.spare other h2 (subst (λ d. m.since d (m.moment pair.spare) other) grown.appended.spare was_other)) in
      record {
        front = held.front;
        rest = held.rest;
        split = held.split;
        opens = law (header_of 2) pair.epoch (pair.payloads ++ written_of k.payload held.front) one other refl held.file (subst (IsSpare (header_of 2) pair.epoch) (sym still) keeps.beside);
        delivered = told_front k n dest dest' held.front held.rest (paid ++ hand) held.split grown.delivered.told;
      }

  -- what they open to where nothing is written
  pub still_opens : OpensBeside → OnlyNow m → (pair : PairState D) (dest : T) (entries : List E) → pair.down ≡ false → PairKeepsWhileUp m pair → LeavesFronts k m n pair pair dest dest entries
  still_opens law only_now pair dest entries up kept h1 h2 one other was was_other =
      let keeps = kept h1 h2 up in
      let file = subst (IsFile (header_of 2) pair.epoch pair.payloads) (sym (keeps.durable one (only_now pair.used one h1 was))) keeps.file in
      let beside = subst (IsSpare (header_of 2) pair.epoch) (sym (keeps.spare_durable other (only_now pair.spare other h2 was_other))) keeps.beside in
      record {
        front = [];
        rest = entries;
        split = refl;
        opens = subst (λ l. PairOpensTo (header_of 2) pair.epoch l one other) (sym (append-nil pair.payloads)) (law (header_of 2) pair.epoch pair.payloads one other refl file beside);
        delivered = ([], grows_none (n.lines dest) (n.lines dest) refl);
      }
