-- The entry in hand: the first of those that are owed, which may follow a front of the history.
use Rattle.std.proofs.Common.{◌≡◌, Bool, true, List, [], ◌∷◌, drop, refl, ap, ap₂, subst}
use Rattle.std.specs.Prelude.{◌&&◌}
use Rattle.esm_model.specs.declared.entry.Entry.{Entry}
use Rattle.esm_model.specs.Setting.{Setting, Stream}
use Rattle.esm_book.specs.Hand.{is_end, FollowsFront}
use Rattle.esm_ledger.specs.Ledger.{LegalOver}
use Rattle.esm_stream_core.specs.CoreView.{setting_with, setting_after, FirstFollows}
use Rattle.esm_stream_core.specs.Kept.{MayAdd}
use Rattle.esm_stream_core.proofs.Settling.{legal_with, full_after}

-- what follows a front follows it still, once a call or the input ended
pub follows_on : (may : List Entry → Entry → Type 0) (h : List Entry) (e x : Entry) → is_end e ≡ true → FollowsFront may h x → FollowsFront may (e ∷ h) x
follows_on may h e x ends f = record {
  before = f.before;
  later = e ∷ f.later;
  split = ap (λ (es : List Entry). e ∷ es) f.split;
  ends = ap₂ (λ (a b : Bool). a && b) ends f.ends;
  follows = f.follows;
}

pub first_on : (s : Setting) (h : List Entry) (e : Entry) (es : List Entry) → is_end e ≡ true → FirstFollows s h es → FirstFollows s (e ∷ h) es
first_on s h e es ends follows x first = follows_on (λ before y. LegalOver s (y ∷ before)) h e x ends (follows x first)

-- the first of those that may be added follows the history itself
pub first_follows : (s : Setting) (h : List Entry) (parts : List Stream) (es : List Entry) → MayAdd s h parts es → FirstFollows (setting_with s parts) h es
first_follows s h parts [] may x first = absurd (cc)
first_follows s h parts (e ∷ es) may x first =
    let same : e ≡ x = cc in
    let legal : LegalOver (setting_with s parts) (e ∷ h) = subst (λ (t : Setting). LegalOver t (e ∷ h)) (full_after s parts) (legal_with (setting_after s parts) (e ∷ h) (drop 1 parts) may.0) in
    record {
      before = h;
      later = [];
      split = refl;
      ends = refl;
      follows = subst (λ (y : Entry). LegalOver (setting_with s parts) (y ∷ h)) same legal;
    }

-- where nothing is owed there is none
pub none_first : (s : Setting) (h : List Entry) → FirstFollows s h []
none_first s h x first = absurd (cc)
