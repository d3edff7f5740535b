-- Entries that may be added one after another.
use Rattle.std.proofs.Common.{◌≡◌, ℕ, ◌<◌, false, List, [], ◌∷◌, ◌++◌, drop, reverse, refl, sym, ap, ◌∙◌, subst, Option, Some, None}
use Rattle.std.proofs.lemmas.List.{reverse-append, append_assoc}
use Rattle.esm_model.specs.declared.lane.LaneId.{LaneId}
use Rattle.esm_model.specs.declared.entry.Entry.{Entry}
use Rattle.esm_model.specs.declared.entry.Entry.TheVariants.{Began, Shut}
use Rattle.esm_model.specs.Setting.{Setting, Stream, Extends, over}
use Rattle.esm_model.specs.Entries.{is_shut}
use Rattle.esm_model.specs.Step.{IsLater}
use Rattle.esm_model.specs.Owed.{Settled}
use Rattle.esm_ledger.specs.Ledger.{LegalOver}
use Rattle.esm_ledger.specs.Coming.{with_list}
use Rattle.esm_ledger.proofs.Comes.{grown_extends}
use Rattle.esm_outcome.specs.Ending.{SettledOver, MaySettle}
use Rattle.esm_record_bounds.specs.Bounds.{AreWithinBounds}
use Rattle.esm_stream_core.specs.CoreView.{with_coming, setting_with, setting_after}
use Rattle.esm_stream_core.specs.Kept.{MayAdd}
use Rattle.esm_stream_core.proofs.Rooms.{own_legal}

-- the history with all of them on it

ahead_step : (e : Entry) (es h : List Entry) → reverse es ++ (e ∷ h) ≡ reverse (e ∷ es) ++ h
ahead_step e es h = sym (ap (λ (xs : List Entry). xs ++ h) (reverse-append (e ∷ []) es) ∙ append_assoc (reverse es) (e ∷ []) h)

-- the lists go on
pub coming_extends : (ts parts : List Stream) → Extends ts (with_coming ts parts)
coming_extends ts [] n i r at = at
coming_extends ts (p ∷ parts) n i r at = coming_extends (with_list ts p.shard p.records) parts n i r (grown_extends ts p.shard p.records n i r at)

pub legal_with : (s : Setting) (h : List Entry) (parts : List Stream) → LegalOver s h → LegalOver (setting_with s parts) h
legal_with s h parts legal streams goes = legal streams (λ n i r at. goes n i r (coming_extends s.streams parts n i r at))

settled_with : (s : Setting) (h : List Entry) (parts : List Stream) → SettledOver s h → SettledOver (setting_with s parts) h
settled_with s h parts settled streams goes = settled streams (λ n i r at. goes n i r (coming_extends s.streams parts n i r at))

-- and the bounds of all lists are those of the first
pub bounds_before : (s : Setting) (parts : List Stream) → AreWithinBounds (setting_with s parts) → AreWithinBounds s
bounds_before s parts b = record {
  own_shard = λ n i r at. b.own_shard n i r (coming_extends s.streams parts n i r at);
  valid = λ n i r at. b.valid n i r (coming_extends s.streams parts n i r at);
  states = b.states;
}

-- all that is coming stays the same when the next of it came
pub full_after : (s : Setting) (parts : List Stream) → setting_with (setting_after s parts) (drop 1 parts) ≡ setting_with s parts
full_after s [] = refl
full_after s (p ∷ parts) = refl

pub legal_ahead : (s : Setting) (h : List Entry) (parts : List Stream) (es : List Entry) → LegalOver s h → MayAdd s h parts es → LegalOver (setting_with s parts) (reverse es ++ h)
legal_ahead s h parts [] legal may = legal_with s h parts legal
legal_ahead s h parts (e ∷ es) legal may =
    subst (LegalOver (setting_with s parts)) (ahead_step e es h)
    (subst (λ (t : Setting). LegalOver t (reverse es ++ (e ∷ h))) (full_after s parts) (legal_ahead (setting_after s parts) (e ∷ h) (drop 1 parts) es may.0 may.1))

pub settled_ahead : (s : Setting) (h : List Entry) (parts : List Stream) (es : List Entry) → MayAdd s h parts es → SettledOver (setting_with s parts) (reverse es ++ h)
settled_ahead s h parts [] may = settled_with s h parts may
settled_ahead s h parts (e ∷ es) may =
    subst (SettledOver (setting_with s parts)) (ahead_step e es h)
    (subst (λ (t : Setting). SettledOver t (reverse es ++ (e ∷ h))) (full_after s parts) (settled_ahead (setting_after s parts) (e ∷ h) (drop 1 parts) es may.1))

-- where no records are coming
pub may_add : (s : Setting) (h : List Entry) (es : List Entry) → MaySettle s h es → MayAdd s h [] es
may_add s h [] may = may
may_add s h (e ∷ es) may = (may.0, may_add s (e ∷ h) es may.1)

-- a call that may begin is one of a lane that there is
pub call_within : (s : Setting) (h : List Entry) (lane : LaneId) (places : List ℕ) (closing : Option ℕ) (m : ℕ) → LegalOver s (Began lane places closing m ∷ h) → lane.lane < s.config.factor
call_within s h lane places None m legal = (own_legal s (Began lane places None m ∷ h) legal).1.1.call.below_factor
call_within s h lane places (Some w) m legal = (own_legal s (Began lane places (Some w) m ∷ h) legal).1.1.call.below_factor

-- where nothing is called for, the input may end, and then nothing is

pub shut_legal : (s : Setting) (h : List Entry) (m : ℕ) → LegalOver s h → SettledOver s h → is_shut h ≡ false → IsLater h m → LegalOver s (Shut m ∷ h)
shut_legal s h m legal settled going later streams goes = (legal streams goes, (later, (settled streams goes, going)))

pub shut_settled : (s : Setting) (h : List Entry) (m : ℕ) → SettledOver s h → SettledOver s (Shut m ∷ h)
shut_settled s h m settled streams goes =
    let t : Settled (over s streams) h = settled streams goes in
    record { sorted = λ n. t.sorted n; paid = λ lane. t.paid lane }

pub none_settled : (s : Setting) → SettledOver s []
none_settled s streams goes = record { sorted = λ n. refl; paid = λ lane. refl }
