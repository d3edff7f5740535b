-- The lines of a history's totals are those of its report.
use Rattle.std.proofs.Common.{◌≡◌, ℕ, List, refl, sym, ap, ◌∙◌, Option}
use Rattle.std.proofs.Math.Path.{fun_ext}
use Rattle.std.specs.List.{flat_map}
use Rattle.std.specs.Option.{option_or}
use Rattle.std.specs.Ordering.{nat_cmp}
use Rattle.std.specs.BTreeMap as map
use Rattle.esm_model.specs.declared.entry.Fate.{Fate}
use Rattle.esm_model.specs.declared.entry.Entry.{Entry}
use Rattle.esm_model.specs.Setting.{Setting}
use Rattle.esm_model.specs.Entries.{came_count}
use Rattle.esm_model.specs.Fates.{fate, given}
use Rattle.esm_journal_state.specs.SaidLists.{SaidLists}
use Rattle.esm_report.specs.Report.{line, shard_text, shard_lines}
use Rattle.esm_report.specs.Totals.{IsTotal, fate_of, fate_found, count_text, front_count, total_line, total_lines}
use Rattle.esm_report.specs.declared.totals.Totals.{Totals}

-- a setting with the fates that the journal told finds them
fate_is : (said : SaidLists) (s : Setting) (h : List Entry) (n i : ℕ) → s.fates ≡ said.fates → fate s h n i ≡ option_or (fate_found said n i) (given h n i)
fate_is said s h n i same = rw same refl

fates_agree : (said : SaidLists) (t : Totals) (s : Setting) (h : List Entry) → s.fates ≡ said.fates → IsTotal t h → (n : ℕ)
    → fate_of said (map.get nat_cmp t.fates n) n ≡ fate s h n
fates_agree said t s h same total n =
    fun_ext (λ i. ap (option_or (fate_found said n i)) (total.fates n i) ∙ sym (fate_is said s h n i same))

text_is : (s : Setting) (h : List Entry) (n : ℕ) → count_text n (came_count h n) (fate s h n) ≡ shard_text s h n
unfolding count_text front_count
text_is s h n = refl

line_is : (said : SaidLists) (t : Totals) (s : Setting) (h : List Entry) → s.fates ≡ said.fates → IsTotal t h → (n : ℕ)
    → total_line said t n ≡ line (shard_text s h n)
unfolding total_line
line_is said t s h same total n =
    ap (λ c. line (count_text n c (fate_of said (map.get nat_cmp t.fates n) n))) (total.records n)
    ∙ ap (λ (g : ℕ → Option Fate). line (count_text n (came_count h n) g)) (fates_agree said t s h same total n)
    ∙ ap line (text_is s h n)

pub lines_are : (said : SaidLists) (t : Totals) (s : Setting) (h : List Entry) → s.fates ≡ said.fates → IsTotal t h
    → total_lines said t ≡ shard_lines s h
lines_are said t s h same total =
    ap (λ (f : ℕ → List ℕ). flat_map f t.shards.keys) (fun_ext (line_is said t s h same total))
    ∙ ap (flat_map (λ n. line (shard_text s h n))) total.shards
