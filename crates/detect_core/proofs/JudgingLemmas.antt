-- What one more member adds to the buildpacks that passed.
use Rattle.std.proofs.Common.{◌≡◌, ◌∙◌, refl, sym, ap, ℕ, ◌+◌, ◌<◌, List, [], ◌∷◌, ◌++◌, take, get_or, length}
use Rattle.std.proofs.Common.{append-nil}
use Rattle.std.specs.Prelude.{Option, Some, None}
use Rattle.std.specs.List.{filter_map, cons_option}
use Rattle.std.proofs.lemmas.List.{take_more}
use Rattle.std.proofs.lemmas.List.Elements.{filter_map-append}
use Rattle.bp_docs.specs.declared.build_plan.PlanOption.{PlanOption}
use Rattle.order_expand.specs.declared.member.Member.{Member}
use Rattle.plan_resolve.specs.declared.rows.AliveRow.{AliveRow}
use Rattle.detect_core.specs.declared.chosen.Verdict.{Verdict}
use Rattle.detect_core.specs.declared.chosen.Verdict.TheVariants.{Pass, Fail, Error}
use Rattle.detect_core.specs.Answer.{alive_row}
use Rattle.detect_core.specs.Kept.{options_of}

passed : (member : Member) (verdict : Verdict) (options : List PlanOption) (row : AliveRow) →
    Some options ≡ options_of verdict → alive_row member (Pass options) ≡ Some row → alive_row member verdict ≡ Some row
passed member (Pass found) options row e h = let same : options ≡ found = cc
    in ap (λ o. alive_row member (Pass o)) (sym same) ∙ h
passed member Fail options row e h = absurd cc
passed member Error options row e h = absurd cc

not_passed : (member : Member) (verdict : Verdict) → None ≡ options_of verdict → alive_row member verdict ≡ None
not_passed member (Pass found) e = absurd cc
not_passed member Fail e = refl
not_passed member Error e = refl

module _ (says : Member → Verdict) (group : List Member) (at : ℕ) (member : Member) (lt : at < length group)
    (is : member ≡ get_or group at member) where
  abbrev row : Member → Option AliveRow
  row m = alive_row m (says m)

  one_more : (o : Option AliveRow) → row member ≡ o → filter_map row (take at group) ++ cons_option o []
      ≡ filter_map row (take (at + 1) group)
  one_more o e =
      ap (λ x. filter_map row (take at group) ++ cons_option x []) (sym e)
      ∙ (sym (filter_map-append row (take at group) (member ∷ []))
      ∙ ap (filter_map row) (ap (λ m. take at group ++ m ∷ []) is ∙ sym (take_more group at member lt)))

  -- a member that passed
  pub passed_more : (rows : List AliveRow) (options : List PlanOption) (new : AliveRow)
      → Some options ≡ options_of (says member) → alive_row member (Pass options) ≡ Some new →
      rows ≡ filter_map row (take at group) → rows ++ new ∷ [] ≡ filter_map row (take (at + 1) group)
  passed_more rows options new found made so_far = ap (λ rs. rs ++ new ∷ []) so_far
      ∙ one_more (Some new) (passed member (says member) options new found made)

  -- a member that did not
  pub failed_more : (rows : List AliveRow) → None ≡ options_of (says member)
      → rows ≡ filter_map row (take at group) → rows ≡ filter_map row (take (at + 1) group)
  failed_more rows found so_far = so_far ∙ (sym (append-nil (filter_map row (take at group)))
      ∙ one_more None (not_passed member (says member) found))
