-- Files that hold the payloads of the first of some entries.
use Rattle.std.proofs.Common.{◌≡◌, inl, inr, ⊎_elim, ℕ, List, [], ◌∷◌, ◌++◌, refl, sym, ap, subst, ◌∙◌, append_assoc, append-nil}
use Rattle.std.proofs.lemmas.List.Elements.{filter_map-append}
use Rattle.esm_journal.specs.File.{header_of, IsFile}
use Rattle.esm_journal.specs.Log.{IsEither}
use Rattle.esm_book.specs.Decided.{written_of}
use Rattle.esm_book.specs.Meanings.{CoreMeaning}
use Rattle.esm_book.specs.Growth.{HoldsFront}
use Rattle.esm_book.proofs.Lists.{front_of, silent_behind}

module _ {C E : Type 0} (k : CoreMeaning C E) (epoch : ℕ) (before : List (List ℕ)) where
  -- the payloads from before alone
  pub holds_none : (entries : List E) (bytes : List ℕ) → IsFile (header_of 2) epoch before bytes → HoldsFront k epoch before entries bytes
  holds_none entries bytes file = record {
    front = [];
    rest = entries;
    split = refl;
    file = subst (λ l. IsFile (header_of 2) epoch l bytes) (sym (append-nil before)) file;
  }

  -- one payload whole, or not at all
  pub holds_either : (entries : List E) (payload bytes : List ℕ) → written_of k.payload entries ≡ payload ∷ []
      → IsEither (header_of 2) epoch before (before ++ payload ∷ []) bytes → HoldsFront k epoch before entries bytes
  holds_either entries payload bytes is (inl file) = holds_none entries bytes file
  holds_either entries payload bytes is (inr file) = record {
    front = entries;
    rest = [];
    split = append-nil entries;
    file = subst (λ l. IsFile (header_of 2) epoch (before ++ l) bytes) (sym is) file;
  }

  -- of entries with more behind them
  pub holds_more : (entries more all : List E) (bytes : List ℕ) → all ≡ entries ++ more → HoldsFront k epoch before entries bytes → HoldsFront k epoch before all bytes
  holds_more entries more all bytes is holds = record {
    front = holds.front;
    rest = holds.rest ++ more;
    split = sym (append_assoc holds.front holds.rest more) ∙ ap (λ l. l ++ more) holds.split ∙ sym is;
    file = holds.file;
  }

  -- behind the payloads of earlier entries
  pub holds_behind : (mid : List (List ℕ)) (first entries all : List E) (bytes : List ℕ) → all ≡ first ++ entries → mid ≡ before ++ written_of k.payload first
      → HoldsFront k epoch mid entries bytes → HoldsFront k epoch before all bytes
  holds_behind mid first entries all bytes is mid_is holds = record {
    front = first ++ holds.front;
    rest = holds.rest;
    split = append_assoc first holds.front holds.rest ∙ ap (λ l. first ++ l) holds.split ∙ sym is;
    file = subst (λ l. IsFile (header_of 2) epoch l bytes)
        (ap (λ l. l ++ written_of k.payload holds.front) mid_is
        ∙ append_assoc before (written_of k.payload first) (written_of k.payload holds.front)
        ∙ ap (λ l. before ++ l) (sym (filter_map-append k.payload first holds.front))) holds.file;
  }

  -- with entries between of which nothing is written
  pub holds_noted : (paid noted hand : List E) (bytes : List ℕ) → written_of k.payload noted ≡ [] → HoldsFront k epoch before (paid ++ hand) bytes → HoldsFront k epoch before ((paid ++ noted) ++ hand) bytes
  holds_noted paid noted hand bytes none holds =
      ⊎_elim
      (λ p. record {
        front = holds.front;
        rest = p.0 ++ (noted ++ hand);
        split = sym (append_assoc holds.front p.0 (noted ++ hand)) ∙ ap (λ l. l ++ (noted ++ hand)) p.1 ∙ sym (append_assoc paid noted hand);
        file = holds.file;
      })
      (λ q. record {
        front = (paid ++ noted) ++ q.0;
        rest = holds.rest;
        split = append_assoc (paid ++ noted) q.0 holds.rest ∙ ap (λ l. (paid ++ noted) ++ l) q.2;
        file = subst (λ l. IsFile (header_of 2) epoch (before ++ l) bytes) (same q.0 q.1) holds.file;
      })
      (front_of holds.front holds.rest paid hand holds.split)
    where
      same : (after : List E) → holds.front ≡ paid ++ after → written_of k.payload holds.front ≡ written_of k.payload ((paid ++ noted) ++ after)
      same after is =
          ap (written_of k.payload) is
          ∙ filter_map-append k.payload paid after
          ∙ ap (λ l. l ++ written_of k.payload after) (sym (silent_behind k.payload paid noted none))
          ∙ sym (filter_map-append k.payload (paid ++ noted) after)
