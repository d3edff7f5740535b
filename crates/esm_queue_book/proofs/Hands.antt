-- The entry in hand: the first owed one, where a disk of the journal failed.
use Rattle.std.proofs.Common.{◌≡◌, ℕ, ◌<◌, Bool, true, List, [], ◌∷◌, length, take, refl, ap, ap₂, arith, Option, Some, None}
use Rattle.std.specs.Prelude.{◌&&◌, filter_map}
use Rattle.std.specs.List.{cons_option}
use Rattle.esm_model.specs.declared.book.Trouble.{Trouble}
use Rattle.esm_model.specs.declared.book.Trouble.TheVariants.{Disk, Dest, Changed}
use Rattle.esm_model.specs.declared.entry.Entry.{Entry}
use Rattle.esm_book.specs.Hand.{is_end, FollowsFront}
use Rattle.esm_book.specs.State.{in_hand}

-- it is the first that is owed
pub first_in_hand : (why : Option Trouble) (owed : List Entry) (e : Entry) → in_hand why owed ≡ e ∷ [] → (more : List Entry) × (owed ≡ e ∷ more)
first_in_hand None owed e some = absurd (cc)
first_in_hand (Some Disk) [] e some = absurd (cc)
first_in_hand (Some Disk) (x ∷ owed) e some = (owed, cc)
first_in_hand (Some Dest) owed e some = absurd (cc)
first_in_hand (Some (Changed change)) owed e some = absurd (cc)

-- there is none, where nothing is owed
pub none_in_hand : (why : Option Trouble) (owed : List Entry) (e : Entry) → owed ≡ [] → in_hand why owed ≡ e ∷ [] → ⊥
none_in_hand None owed e none some = absurd (cc)
none_in_hand (Some Disk) [] e none some = absurd (cc)
none_in_hand (Some Disk) (x ∷ owed) e none some = absurd (cc)
none_in_hand (Some Dest) owed e none some = absurd (cc)
none_in_hand (Some (Changed change)) owed e none some = absurd (cc)

-- what follows a front follows it still, once a call or the input ended
pub follows_on : (may : List Entry → Entry → Type 0) (h : List Entry) (e x : Entry) → is_end e ≡ true → FollowsFront may h x → FollowsFront may (e ∷ h) x
follows_on may h e x ends f = record {
  before = f.before;
  later = e ∷ f.later;
  split = ap (λ (es : List Entry). e ∷ es) f.split;
  ends = ap₂ (λ (a b : Bool). a && b) ends f.ends;
  follows = f.follows;
}

-- where something is written of the first owed entry, that one is in hand, and no other
pub one_in_hand : (text : Entry → Option (List ℕ)) (owed : List Entry) (why : Option Trouble) → 0 < length (filter_map text (take 1 owed)) → why ≡ Some Disk
    → (e : Entry) × (written : List ℕ) × (in_hand why owed ≡ e ∷ []) × (text e ≡ Some written)
one_in_hand text [] why writing is = absurd (omega (arith, writing))
one_in_hand text (e ∷ owed) why writing is = one (text e) refl writing
  where
    one : (o : Option (List ℕ)) → text e ≡ o → 0 < length (cons_option o []) → (x : Entry) × (written : List ℕ) × (in_hand why (e ∷ owed) ≡ x ∷ []) × (text x ≡ Some written)
    one None has some = absurd (omega (arith, some))
    one (Some written) has some = (e, written, ap (λ (t : Option Trouble). in_hand t (e ∷ owed)) is, has)
