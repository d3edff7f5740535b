-- Two runs of one mapping over the same files have settings that differ in nothing but their records.
use Rattle.std.proofs.Common.{◌≡◌, ◌∙◌, ℕ, true, List, None, ap, inl, inr, refl, reverse, subst, sym}
use Rattle.std.specs.Prelude.{◌⊎◌, is_some}
use Rattle.esm_journal.specs.File.{Holding, Opening}
use Rattle.esm_ledger.specs.Ledger.{opened_with}
use Rattle.esm_model.specs.declared.config.Config.{Config}
use Rattle.esm_model.specs.declared.entry.Entry.{Entry}
use Rattle.esm_model.specs.Records.{Record}
use Rattle.esm_model.specs.Fates.{fate}
use Rattle.esm_model.specs.Setting.{Setting, over}
use Rattle.esm_model.specs.Windows.{is_outstanding}
use Rattle.esm_runner.specs.Ran.{AllFated, HasOpen, HasOutstanding, NoneOutstanding}
use Rattle.esm_journal_state.specs.Compact.{SameSaid}
use Rattle.esm_journal_state.specs.Meaning.{history}
use Rattle.esm_journal_state.specs.SaidLists.{IsInOrder, SaidLists}
use Rattle.esm_journal_state.specs.Tells.{Tells}
use Rattle.esm_runner.specs.Headline.{IsSettingOf}
use Rattle.esm_run.proofs.BadPayloads.{same_payloads}

-- the law of what payloads say
abbrev pub SameTold : Type 0
SameTold = (t u : SaidLists) (payloads : List (List ℕ)) → Tells t (history payloads) → Tells u (history payloads) → SameSaid (history payloads) (history payloads) → IsInOrder t → IsInOrder u → t ≡ u

says_itself : (payloads : List (List ℕ)) → SameSaid (history payloads) (history payloads)
says_itself payloads = record {
  fates = λ n i. refl;
  tries = λ n i. refl;
  states = λ n w. refl;
  window_tries = λ n w. refl;
  replays = λ n i. refl;
  deletions = λ i. refl;
}

-- what one opening says
pub one_said : (opening : Opening) (e d : ℕ) (a b : List (List ℕ)) (t u : SaidLists) → SameTold → opening ≡ Holding e a → opening ≡ Holding d b
    → Tells t (history (reverse a)) → Tells u (history (reverse b)) → IsInOrder t → IsInOrder u → t ≡ u
one_said opening e d a b t u told one other tells tells_too order order_too =
    let same : b ≡ a = same_payloads d e b a (sym other ∙ one) in
    told t u (reverse a) tells (subst (λ (ps : List (List ℕ)). Tells u (history (reverse ps))) same tells_too) (says_itself (reverse a)) order order_too

-- the settings

pub one_setting : (c d : Config) (calls : ℕ) (t u : SaidLists) (xs ys : List Record) (s z : Setting) → c ≡ d → t ≡ u
    → IsSettingOf c calls t xs s → IsSettingOf d calls u ys z → z ≡ over s z.streams
one_setting c d calls t u xs ys s z configs saids one other =
    other.opened
    ∙ ap (λ config. over (opened_with config calls u) z.streams) (sym configs)
    ∙ ap (λ said. over (opened_with c calls said) z.streams) (sym saids)
    ∙ sym (ap (λ v. over v z.streams) one.opened)

pub other_setting : (s z : Setting) → z ≡ over s z.streams → s ≡ over z s.streams
other_setting s z same = sym (ap (λ v. over v s.streams) same)

-- what is open does not depend on the records

open_nowhere : (s z : Setting) (h : List Entry) → z ≡ over s z.streams → AllFated s h → HasOpen z h → ⊥
open_nowhere s z h same all open' =
    let some : is_some (fate s h open'.shard open'.place) ≡ true = all open'.shard open'.place open'.came in
    let none : fate s h open'.shard open'.place ≡ None = sym (ap (λ v. fate v h open'.shard open'.place) same) ∙ open'.no_fate in
    let both = sym some ∙ ap is_some none in
    cc

outstanding_nowhere : (s z : Setting) (h : List Entry) → z ≡ over s z.streams → NoneOutstanding s h → HasOutstanding z h → ⊥
outstanding_nowhere s z h same none left =
    let both = sym (none left.shard left.window) ∙ sym (ap (λ v. is_outstanding v h left.shard left.window) same) ∙ left.outstanding in
    cc

pub left_nowhere : (s z : Setting) (h : List Entry) → z ≡ over s z.streams → AllFated s h → NoneOutstanding s h → HasOpen z h ⊎ HasOutstanding z h → ⊥
left_nowhere s z h same all none (inl open') = open_nowhere s z h same all open'
left_nowhere s z h same all none (inr left) = outstanding_nowhere s z h same none left
