-- Steps at a code, as they are put over a plan.
use Rattle.std.proofs.Common.{◌≡◌, ℕ, List, [], ◌∷◌, ◌++◌, sym, ap, ◌∙◌}
use Rattle.rel_algebra.specs.BodyDispatch.{joins, tags}
use Rattle.rel_algebra.specs.BodySteps.{Store, acts, asked_at, case_of, col, guarded, placed}
use Rattle.rel_algebra.specs.BodySteps.{store, tag}
use Rattle.rel_algebra.specs.Joins.{places}
use Rattle.rel_algebra.specs.Plan.{Nodes, Scalar, Scalars, extend, extend_by, keep, more, no_node, none}
use Rattle.rel_algebra.specs.Plan.{on_each, strict, unit_row, word}
use Rattle.rel_algebra.specs.PlanView.{scalar_of, scalars_of}
use Rattle.rel_algebra.specs.Tree.{AnyOf}
use Rattle.rel_algebra.specs.declared.scalar.ListWord.TheVariants as listed
use Rattle.rel_algebra.specs.declared.scalar.Scalar.{Scalar as ScalarCode}
use Rattle.rel_algebra.specs.declared.scalar.Scalar.TheVariants as code
use Rattle.plan_expressions.specs.Drafts.{drafted}
use Rattle.plan_expressions.specs.declared.draft.Draft.{Draft}
use Rattle.plan_expressions.proofs.Laws.{on_each-joined, scalar_of-Column, scalar_of-Listed}
use Rattle.plan_steps.specs.Steps.{Puts, joined_cell}
use Rattle.plan_steps.proofs.Stepping.{puts_as}

-- nodes at a code, stores and a Keep are one step
pub act_put : (code first n : ℕ) (e : Nodes) (stores : List Store) (kept extra : List ℕ)
    (old new : Draft) → kept ≡ placed stores first (places 0 n) ++ extra →
    (drafted new).tree ≡ keep kept (extend (guarded code stores) (on_each (asked_at code e)
    (drafted old).tree)) → Puts old new (acts code e first stores n extra ∷ [])
act_put code first n e stores kept extra old new kept_is h = record {
  tree = h ∙ (λ j. keep (kept_is j) (extend (guarded code stores) (on_each (asked_at code e)
      (drafted old).tree))) ∙
      ap (keep (placed stores first (places 0 n) ++ extra))
      (sym (on_each-joined (asked_at code e) (extend_by (guarded code stores) no_node)
      (drafted old).tree));
}

-- nodes that are held as a list
pub stored_put : (code : ℕ) (e run : Nodes) (stores : List Store) (kept : List ℕ)
    (old mid new : Draft) → run ≡ e →
    (drafted mid).tree ≡ on_each (asked_at code run) (drafted old).tree →
    (drafted new).tree ≡ keep kept (extend (guarded code stores) (drafted mid).tree) →
    (drafted new).tree ≡ keep kept (extend (guarded code stores) (on_each (asked_at code e)
    (drafted old).tree))
stored_put code e run stores kept old mid new r h g =
    g ∙ ap (λ t. keep kept (extend (guarded code stores) t))
    (h ∙ ap (λ ns. on_each (asked_at code ns) (drafted old).tree) r)

-- a store of another code
pub go_put : (code n : ℕ) (target goal : Scalar) (stores : List Store) (extra : List ℕ)
    (nodes old new : Draft) → (drafted nodes).tree ≡ unit_row →
    stores ≡ store 0 target ∷ [] → extra ≡ [] → target ≡ goal →
    ((e : Nodes) → (drafted nodes).tree ≡ on_each e unit_row →
    Puts old new (acts code e n stores n extra ∷ [])) →
    Puts old new (acts code no_node n (store 0 goal ∷ []) n [] ∷ [])
go_put code n target goal stores extra nodes old new tree stores_are none_is target_is puts =
    puts_as old new _ _
    ((λ j. acts code no_node n (stores_are j) n (none_is j) ∷ []) ∙
    ap (λ t. acts code no_node n (store 0 t ∷ []) n [] ∷ []) target_is)
    (puts no_node tree)

-- the code from any of several, as CASE
pub joined_is : (first count here : ℕ) (codes : List ScalarCode) (taken s : ScalarCode) →
    scalar_of s ≡ case_of (scalar_of (code.Listed listed.AnyOf codes)) (scalar_of taken)
    (scalar_of (code.Column 0 0)) → scalars_of codes ≡ more (col 0) (tags first count) →
    scalar_of taken ≡ tag here → scalar_of s ≡ joined_cell first count here
joined_is first count here codes taken s is codes_are taken_is =
    is ∙ (λ j. case_of (scalar_of-Listed listed.AnyOf codes j) (taken_is j)
    (scalar_of-Column 0 0 j)) ∙
    ap (λ (cells : Scalars). case_of (word (strict AnyOf) cells) (tag here) (col 0)) codes_are

-- on at another code from any of several
pub join_put : (i k here m n : ℕ) (code : Scalar) (cells : Scalars) (stores : List Store)
    (kept : List ℕ) (old mid new : Draft) (goal : Scalar) → code ≡ joined_cell i k here →
    cells ≡ more code none → goal ≡ tag here → stores ≡ store 0 goal ∷ [] →
    kept ≡ placed stores m (places 0 n) → (drafted mid).tree ≡ extend cells (drafted old).tree →
    (drafted new).tree ≡ keep kept (drafted mid).tree →
    Puts old new (joins i k here m n ∷ [])
join_put i k here m n code cells stores kept old mid new goal code_is cells_are goal_is stores_are
    kept_is h g = record {
      tree = g ∙ ap (keep kept) h ∙
          (λ j. keep (kept_is j) (extend (cells_are j) (drafted old).tree)) ∙
          (λ j. keep (placed (stores_are j) m (places 0 n)) (extend (more (code_is j) none)
          (drafted old).tree)) ∙
          (λ j. keep (placed (store 0 (goal_is j) ∷ []) m (places 0 n)) (extend
          (more (joined_cell i k here) none) (drafted old).tree));
    }

-- the same step, by equal parts
pub acted_as : (at n m k : ℕ) (e : Nodes) (stores goal : List Store) (extra wanted : List ℕ)
    (old new : Draft) → m ≡ k → stores ≡ goal → extra ≡ wanted →
    Puts old new (acts at e m stores n extra ∷ []) →
    Puts old new (acts at e k goal n wanted ∷ [])
acted_as at n m k e stores goal extra wanted old new wide_is stores_are extra_is puts =
    puts_as old new _ _ (λ j. acts at e (wide_is j) (stores_are j) n (extra_is j) ∷ []) puts
