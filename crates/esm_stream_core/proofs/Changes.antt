-- A record that differs from what was kept of it.
use Rattle.std.proofs.Common.{◌≡◌, ℕ, List, [], ◌∷◌, ◌++◌, refl, sym, subst, Option, Some, None}
use Rattle.std.specs.Option.{option_or}
use Rattle.std.specs.Prelude.{option_map, Result, Ok, Err, IfErr}
use Rattle.std.specs.Result.{IsErrAnd}
use Rattle.esm_model.specs.Records.{Record}
use Rattle.esm_model.specs.declared.book.Change.{Change}
use Rattle.esm_model.specs.declared.entry.Entry.{Entry}
use Rattle.esm_model.specs.Setting.{Setting}
use Rattle.esm_ingest.specs.Changes.{change_of, change_at, place_after, first_change_from, kept_otherwise}
use Rattle.esm_book.specs.Decided.{IsRefused}
use Rattle.esm_book.specs.declared.error.Refusal.TheVariants.{Changed, OutOfMemory}
use Rattle.esm_book.specs.declared.error.Refusal.{Refusal}
use Rattle.esm_stream_core.specs.CoreView.{CoreView}
use Rattle.esm_stream_core.specs.Calls.{Differs}
use Rattle.esm_stream_core.specs.Told.{opened, IsChange}

-- of a text that was kept otherwise
kept_in : (s : Setting) (r : Record) (i : ℕ) (kept : Option (List ℕ)) (change : Change) → kept_otherwise s r.shard i r.seq ≡ kept → option_map (change_of r i) kept ≡ Some change → kept_otherwise s change.shard change.place change.given ≡ Some change.kept
kept_in s r i None change is made = absurd (cc)
kept_in s r i (Some text) change is made =
    let same : change_of r i text ≡ change = cc in
    subst (λ (x : Change). kept_otherwise s x.shard x.place x.given ≡ Some x.kept) same is

either : (a b : Option Change) (change : Change) (P : Type 0) → option_or a b ≡ Some change → (a ≡ Some change → P) → (b ≡ Some change → P) → P
either None b change P is first second = second is
either (Some x) b change P is first second = first is

found_from : (s : Setting) (h : List Entry) (before rs : List Record) (change : Change) → first_change_from s h before rs ≡ Some change → kept_otherwise s change.shard change.place change.given ≡ Some change.kept
found_from s h before [] change is = absurd (cc)
found_from s h before (r ∷ rs) change is =
    either (change_at s (place_after h before r) r) (first_change_from s h (before ++ r ∷ []) rs) change (kept_otherwise s change.shard change.place change.given ≡ Some change.kept) is
    (λ here. kept_in s r (place_after h before r) (kept_otherwise s r.shard (place_after h before r) r.seq) change refl here)
    (λ later. found_from s h (before ++ r ∷ []) rs change later)

pub is_change : (v : CoreView) (items : List Record) (change : Change) → Differs v items change → IsChange (opened v) change
is_change v items change differs = found_from v.setting v.past [] items change differs

-- why records are refused
pub refused_so : (v : CoreView) (items : List Record) (r : Refusal) → IsRefused (Differs v items) r → IsRefused (λ change. Differs v items change × IsChange (opened v) change) r
refused_so v items (Changed told kept) is = ((is.0, is_change v items told is.0), is.1)
refused_so v items OutOfMemory is = tt

-- an error that is handed on
pub handed_on : {A : Type 0} (P : Refusal → Type 0) (e : Refusal) (r : Result A Refusal) → P e → IsErrAnd r (λ x. x ≡ e) → IfErr r P
handed_on P e (Ok a) holds is = tt
handed_on P e (Err x) holds is = subst P (sym is) holds
