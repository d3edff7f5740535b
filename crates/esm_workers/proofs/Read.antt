-- What a closed turn tells of the reader.
use Rattle.std.proofs.Common.{◌≡◌, ℕ, Bool, true, false, List, [], ◌++◌, refl, sym, ap, ◌∙◌, subst, append_assoc, Option}
use Rattle.esm_model.specs.declared.book.Change.{Change}
use Rattle.esm_model.specs.declared.setup.Setup.{Setup}
use Rattle.esm_model.specs.declared.setup.Told.{Told}
use Rattle.esm_model.specs.Books.{entries_told}
use Rattle.esm_model.specs.Entries.{is_shut}
use Rattle.esm_model.specs.Kept.{entries_after, IsLegal}
use Rattle.esm_model.proofs.Growing.{entries-append}
use Rattle.esm_workers.proofs.Later.{shut_still}
use Rattle.esm_workers.specs.Hands.{GoesOnFrom}
use Rattle.esm_workers.specs.Shared.{WasRead}

not_true : (b : Bool) → (b ≡ true → ⊥) → b ≡ false
not_true true never = absurd (never refl)
not_true false never = refl

module _ (author : Setup → List Told → Told → ℕ) (may_follow : Setup → List Told → Told → Type 0) (setup : Setup) where
  -- where the seat has seen the input's end unless the book was down
  pub shut_whole : (n : ℕ) (seen h : List Told) (seen_mark mark : Bool) → GoesOnFrom author may_follow setup n seen h → (seen_mark ≡ true → mark ≡ true)
      → (seen_mark ≡ false → is_shut (entries_told seen) ≡ true) → mark ≡ false → is_shut (entries_told h) ≡ true
  shut_whole n seen h seen_mark mark on marked shut up =
      let up_still : seen_mark ≡ false = not_true seen_mark (λ down. let both : true ≡ false = sym (marked down) ∙ up in cc) in
      ap (λ l. is_shut (entries_told l)) on.whole ∙ shut_still seen on.rest (shut up_still)

  -- what a reader did, told of a history that others made longer, and of the same change
  pub read_on : (read : List Told → Bool → Option Change → Bool → Type 0) (h h' : List Told) (mark mark' : Bool) (change change' : Option Change) (short short' : Bool) → WasRead author may_follow read setup h mark change short
      → GoesOnFrom author may_follow setup 0 h h' → (mark ≡ true → mark' ≡ true) → change' ≡ change → (short' ≡ false → short ≡ false) → WasRead author may_follow read setup h' mark' change' short'
  read_on read h h' mark mark' change change' short short' was on marked same less =
      let rest : List Told = was.rest ++ on.rest in
      let whole : h ++ on.rest ≡ was.seen ++ rest = ap (λ l. l ++ on.rest) was.whole ∙ append_assoc was.seen was.rest on.rest in
      let behind : entries_after (author setup) 0 (was.seen ++ was.rest) on.rest ≡ [] = ap (λ l. entries_after (author setup) 0 l on.rest) (sym was.whole) ∙ on.others.others in
      record {
        seen = was.seen;
        rest = rest;
        whole = on.whole ∙ whole;
        others = record {
          legal = subst (IsLegal (may_follow setup)) whole on.others.legal;
          others = entries-append (author setup) 0 was.seen was.rest on.rest ∙ (ap (λ l. l ++ entries_after (author setup) 0 (was.seen ++ was.rest) on.rest) was.others.others ∙ behind);
        };
        seen_mark = was.seen_mark;
        marked = λ down. marked (was.marked down);
        was_short = was.was_short;
        long = λ long. was.long (less long);
        did = subst (λ (c : Option Change). read was.seen was.seen_mark c was.was_short) (sym same) was.did;
      }
