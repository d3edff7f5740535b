-- The leaves of an object's members, a member at a time.
use Rattle.std.proofs.Common.{◌≡◌, ℕ, ◌<◌, ◌==◌, Bool, true, false, cond, List, length, get_or, Option, Some, None, option_map, refl, sym, ap, subst, ◌∙◌}
use Rattle.std.specs.Str.{bytes_eq}
use Rattle.std.proofs.lemmas.Bool.{eqb-true, eqb-false}
use Rattle.std.proofs.lemmas.List.{get_or-set_same, get_or-set_other}
use Rattle.std.proofs.Math.ListN.{set}
use Rattle.serde_json.specs.Data.{Data, Members, no_members, put}
use Rattle.serde_json.specs.Find.{get_member, as_str}
use Rattle.serde_json.proofs.Views.{get_member-put, get_member-put_other}
use Rattle.esm_record.specs.declared.error.Field.{Field}
use Rattle.esm_record.specs.declared.error.Field.TheVariants as field
use Rattle.esm_record.specs.declared.object.Leaf.{Leaf}
use Rattle.esm_record.specs.declared.object.Found.{Found}
use Rattle.esm_record.specs.Line.{name_of, slot_of}
use Rattle.esm_record.specs.Leaf.{text_in, whole_in, whole_of, IsLeafOf, leaf_at, IsFound, AreFound}

-- ---- a field is told by its name, and by its slot

abbrev slot_by : List ℕ → ℕ
slot_by name = cond (bytes_eq name (name_of field.ShardId)) 0 (cond (bytes_eq name (name_of field.SequenceNumber)) 1 (cond (bytes_eq name (name_of field.PartitionKey)) 2 (cond (bytes_eq name (name_of field.Data)) 3 (cond (bytes_eq name (name_of field.ApproximateArrivalTimestamp)) 4 (cond (bytes_eq name (name_of field.MessageId)) 5 (cond (bytes_eq name (name_of field.Body)) 6 (cond (bytes_eq name (name_of field.SentTimestamp)) 7 (8))))))))

slot_by-name : (f : Field) → slot_by (name_of f) ≡ slot_of f
slot_by-name field.ShardId = refl
slot_by-name field.SequenceNumber = refl
slot_by-name field.PartitionKey = refl
slot_by-name field.Data = refl
slot_by-name field.ApproximateArrivalTimestamp = refl
slot_by-name field.MessageId = refl
slot_by-name field.Body = refl
slot_by-name field.SentTimestamp = refl
slot_by-name field.MessageGroupId = refl

abbrev field_by : ℕ → Field
field_by n = cond (n == 0) field.ShardId (cond (n == 1) field.SequenceNumber (cond (n == 2) field.PartitionKey (cond (n == 3) field.Data (cond (n == 4) field.ApproximateArrivalTimestamp (cond (n == 5) field.MessageId (cond (n == 6) field.Body (cond (n == 7) field.SentTimestamp (field.MessageGroupId))))))))

field_by-slot : (f : Field) → field_by (slot_of f) ≡ f
field_by-slot field.ShardId = refl
field_by-slot field.SequenceNumber = refl
field_by-slot field.PartitionKey = refl
field_by-slot field.Data = refl
field_by-slot field.ApproximateArrivalTimestamp = refl
field_by-slot field.MessageId = refl
field_by-slot field.Body = refl
field_by-slot field.SentTimestamp = refl
field_by-slot field.MessageGroupId = refl

same_slot : (f g : Field) → name_of f ≡ name_of g → slot_of f ≡ slot_of g
same_slot f g e = sym (slot_by-name f) ∙ ap slot_by e ∙ slot_by-name g

same_name : (f g : Field) → slot_of f ≡ slot_of g → name_of f ≡ name_of g
same_name f g e = ap name_of (sym (field_by-slot f) ∙ ap field_by e ∙ field_by-slot g)

-- ---- what is found

found_as : (m : Option Data) (s : Option Leaf) (d : Data) (l : Leaf) → m ≡ Some d → s ≡ Some l → IsLeafOf d l → IsFound m s
found_as m s d l at_m at_s is = record {
  text = ap (option_map as_str) at_m ∙ ap Some is.text ∙ sym (ap (option_map text_in) at_s);
  whole = ap (option_map whole_of) at_m ∙ ap Some is.whole ∙ sym (ap (option_map whole_in) at_s);
}

found_still : (m n : Option Data) (s t : Option Leaf) → m ≡ n → s ≡ t → IsFound n t → IsFound m s
found_still m n s t at_m at_s is = record {
  text = ap (option_map as_str) at_m ∙ is.text ∙ sym (ap (option_map text_in) at_s);
  whole = ap (option_map whole_of) at_m ∙ is.whole ∙ sym (ap (option_map whole_in) at_s);
}

pub none_found : (found : Found) → ((f : Field) → leaf_at f found ≡ None) → AreFound no_members found
none_found found empty f = record { text = sym (ap (option_map text_in) (empty f)); whole = sym (ap (option_map whole_in) (empty f)) }

-- a member that no field names
pub kept_unnamed : (name : List ℕ) (d : Data) (ms : Members) (found : Found) → ((f : Field) → name ≡ name_of f → ⊥) → AreFound ms found → AreFound (put name d ms) found
kept_unnamed name d ms found unnamed are f =
    found_still (get_member (name_of f) (put name d ms)) (get_member (name_of f) ms) (leaf_at f found) (leaf_at f found) (get_member-put_other (name_of f) name d ms (λ e. unnamed f (sym e))) refl (are f)

-- a member that the field h names
module _ (h : Field) (name : List ℕ) (d : Data) (ms : Members) (old new : Found) (l : Leaf) (named : name ≡ name_of h) (sized : slot_of h < length old.leaves) (stored : new.leaves ≡ set old.leaves (slot_of h) (Some l)) (is : IsLeafOf d l) (are : AreFound ms old) where
  kept_at : (f : Field) (same : Bool) → (slot_of f == slot_of h) ≡ same → IsFound (get_member (name_of f) (put name d ms)) (leaf_at f new)
  kept_at f true e =
      let slots : slot_of f ≡ slot_of h = eqb-true (slot_of f) (slot_of h) e in
      let names : name_of f ≡ name = same_name f h slots ∙ sym named in
      let at_m : get_member (name_of f) (put name d ms) ≡ Some d = ap (λ (k : List ℕ). get_member k (put name d ms)) names ∙ get_member-put name d ms in
      let at_s : leaf_at f new ≡ Some l = ap (λ (ls : List (Option Leaf)). get_or ls (slot_of f) None) stored ∙ ap (λ (i : ℕ). get_or (set old.leaves (slot_of h) (Some l)) i None) slots ∙ get_or-set_same old.leaves (slot_of h) (Some l) None sized in
      found_as (get_member (name_of f) (put name d ms)) (leaf_at f new) d l at_m at_s is
  kept_at f false e =
      let other : name_of f ≡ name → ⊥ = λ (same : name_of f ≡ name). eqb-false (slot_of f) (slot_of h) e (same_slot f h (same ∙ named)) in
      let at_s : leaf_at f new ≡ leaf_at f old = ap (λ (ls : List (Option Leaf)). get_or ls (slot_of f) None) stored ∙ get_or-set_other old.leaves (slot_of h) (slot_of f) (Some l) None (eqb-false (slot_of f) (slot_of h) e) in
      found_still (get_member (name_of f) (put name d ms)) (get_member (name_of f) ms) (leaf_at f new) (leaf_at f old) (get_member-put_other (name_of f) name d ms other) at_s (are f)

  pub kept_named : AreFound (put name d ms) new
  kept_named f = kept_at f (slot_of f == slot_of h) refl

pub kept_as : (h : Field) (name : List ℕ) (d : Data) (ms : Members) (found : Found) → name ≡ name_of h → AreFound (put (name_of h) d ms) found → AreFound (put name d ms) found
kept_as h name d ms found named are = subst (λ (n : List ℕ). AreFound (put n d ms) found) (sym named) are
