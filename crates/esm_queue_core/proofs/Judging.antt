-- What messages that come are judged by.
use Rattle.std.proofs.Common.{◌≡◌, ℕ, zero, suc, ◌+◌, ◌<◌, Bool, true, false, not, cond, List, [], ◌∷◌, ◌++◌, length, drop, get_or, refl, sym, ap, ap₂, ◌∙◌, arith, append_assoc, Option, Some, None}
use Rattle.std.specs.Prelude.{option_map, is_some, find, ◌==◌, slice_get}
use Rattle.std.proofs.Math.Seq.{drop-cons}
use Rattle.serde_json.specs.Read.{read}
use Rattle.esm_model.specs.declared.item.Message.{Message}
use Rattle.esm_model.specs.declared.setup.FoundDeletion.{FoundDeletion}
use Rattle.esm_model.specs.Filter.{patterns_pass, in_message, passes_message}
use Rattle.esm_filter.specs.Criteria.{patterns_of}
use Rattle.esm_filter.specs.declared.criteria.Criteria.{Criteria}
use Rattle.esm_journal_state.specs.declared.kept.KeptFate.{KeptFate}
use Rattle.esm_journal_state.specs.SaidLists.{SaidLists, deletion_told}
use Rattle.esm_journal_state.specs.Tells.{deletion_of_found}
use Rattle.esm_queue_model.specs.QueueSetting.{QueueSetting, is_found}
use Rattle.esm_queue_core.specs.Coming.{is_refused_at, refused_from}
use Rattle.esm_queue_core.specs.Judged.{IsJudgedBy}

pub found_some : (o : Option FoundDeletion) (x : KeptFate) → Some x ≡ option_map deletion_of_found o → is_some o ≡ true
found_some None x is = absurd (cc)
found_some (Some f) x is = refl

pub found_none : (o : Option FoundDeletion) → None ≡ option_map deletion_of_found o → is_some o ≡ false
found_none None is = refl
found_none (Some f) is = absurd (cc)

pub found_told : (s : QueueSetting) (said : SaidLists) (i : ℕ) → s.deletions ≡ said.deletions → is_found s i ≡ is_some (deletion_told said i)
found_told s said i same = ap (λ (ds : List FoundDeletion). is_some (find (λ (f : FoundDeletion). f.place == i) ds)) same

pub refused_found : (s : QueueSetting) (said : SaidLists) (criteria : Criteria) (i : ℕ) (m : Message) (x : KeptFate) → IsJudgedBy s said criteria → Some x ≡ option_map deletion_of_found (deletion_told said i) → false ≡ is_refused_at s i m
refused_found s said criteria i m x j is =
    let e : is_found s i ≡ true = found_told s said i j.deletions ∙ found_some (deletion_told said i) x is in
    rw e refl

pub refused_passes : (s : QueueSetting) (said : SaidLists) (criteria : Criteria) (i : ℕ) (m : Message) (b : Bool) → IsJudgedBy s said criteria → None ≡ option_map deletion_of_found (deletion_told said i) → b ≡ patterns_pass (patterns_of criteria) (in_message m (read m.body)) → not b ≡ is_refused_at s i m
refused_passes s said criteria i m b j is passes =
    let e : is_found s i ≡ false = found_told s said i j.deletions ∙ found_none (deletion_told said i) is in
    let p : b ≡ passes_message s.config.filters m = passes ∙ j.judges m j.queue in
    rw e (ap not p)

-- one more message of a list
next_message : (xs : List Message) (i : ℕ) (x : Message) → i < length xs → x ≡ get_or xs i x → drop i xs ≡ x ∷ drop (i + 1) xs
next_message xs i x l at =
    let e : suc i ≡ i + 1 = omega arith in
    drop-cons xs i x l ∙ ap₂ (λ (y : Message) (n : ℕ). y ∷ drop n xs) (sym at) e

pub refused_more : (s : QueueSetting) (from : ℕ) (items : List Message) (i : ℕ) (x : Message) (places places' : List ℕ) (b : Bool) → i < length items → x ≡ get_or items i x → b ≡ is_refused_at s (from + i) x → places' ≡ cond b (places ++ (from + i) ∷ []) places
    → places ++ refused_from s (from + i) (drop i items) ≡ refused_from s from items → places' ++ refused_from s (from + (i + 1)) (drop (i + 1) items) ≡ refused_from s from items
refused_more s from items i x places places' b l at is next so_far =
    let e : from + (i + 1) ≡ (from + i) + 1 = omega arith in
    let rest = refused_from s ((from + i) + 1) (drop (i + 1) items) in
    let whole : places ++ cond b ((from + i) ∷ rest) rest ≡ refused_from s from items
    = ap (λ (c : Bool). places ++ cond c ((from + i) ∷ rest) rest) is ∙ (ap (λ (xs : List Message). places ++ refused_from s (from + i) xs) (sym (next_message items i x l at)) ∙ so_far) in
    ap₂ (λ (xs : List ℕ) (k : ℕ). xs ++ refused_from s k (drop (i + 1) items)) next e ∙ (joined b places (from + i) rest ∙ whole)
  where
    joined : (b : Bool) (places : List ℕ) (k : ℕ) (rest : List ℕ) → cond b (places ++ k ∷ []) places ++ rest ≡ places ++ cond b (k ∷ rest) rest
    joined true places k rest = append_assoc places (k ∷ []) rest
    joined false places k rest = refl

-- an element within a list
pub at_of : (xs : List Message) (i : ℕ) (x : Message) → i < length xs → x ≡ get_or xs i x → slice_get xs i ≡ Some x
at_of [] i x l at = absurd (omega arith)
at_of (y ∷ xs) zero x l at = ap Some (sym at)
at_of (y ∷ xs) (suc i) x l at = at_of xs i x (omega arith) at
