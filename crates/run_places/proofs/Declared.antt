-- The variables of a compound statement while they are declared.
use Rattle.std.proofs.Common.{◌≡◌, ℕ, ◌<◌, ◌≤◌, ◌+◌, [], ◌∷◌, ◌++◌, List, length, drop, get_or, replicate}
use Rattle.std.proofs.Common.{Option, Some, None, Ok, Err, refl, sym, ap, ◌∙◌, take}
use Rattle.std.proofs.Common.{append_assoc}
use Rattle.std.proofs.lemmas.List.{drop_all}
use Rattle.sql_values.specs.declared.value.Value.{Value}
use Rattle.sql_values.specs.declared.value.SqlType.{SqlType}
use Rattle.bound_trees.specs.declared.expr.BoundExpr.{BoundExpr}
use Rattle.bound_trees.specs.declared.statement.BoundVariables.{BoundVariables}
use Rattle.rel_algebra.specs.Tree as tree
use Rattle.rel_algebra.specs.World.{World, Frame, Ends, Called}
use Rattle.rel_algebra.specs.World.{after}
use Rattle.rel_algebra.specs.Doing.{first_of, with_more}
use Rattle.rel_algebra.specs.Meaning.{declare}
use Rattle.routine_views.specs.Views.{Known, variables}
use Rattle.run_choices.specs.declared.stop.Stop.{Stop}
use Rattle.run_choices.specs.declared.stop.Stop.TheVariants.{Raised, Spent, NoMemory as NoRoom}
use Rattle.run_expressions.specs.Content.{Content, world_of, Stays}
use Rattle.run_expressions.specs.Ending.{Ended}
use Rattle.run_expressions.proofs.Laws.{rest, stays_same}
use Rattle.run_expressions.proofs.Laws.{stays_on}
use Rattle.run_places.specs.Cost.{perhaps_cost, variables_cost}
use Rattle.run_places.specs.Defaults.{default_in}
use Rattle.routine_views.specs.Views.{perhaps}

-- a declaration: its default first, and then the others
declare_at : (k : Known) (o : Option BoundExpr) (n : ℕ) (t : SqlType) (vs : List BoundVariables)
    (self : Called) (f : Frame) (w : World) →
    declare (tree.MoreVariables n t (perhaps k o) (variables k vs)) self f w ≡
    after (default_in k o t self f w)
    (λ x. declare (variables k vs) self (with_more (replicate n x) f))
declare_at k None n t vs self f w = refl
declare_at k (Some e) n t vs self f w = refl

-- From one frame and world to another some declarations are made: what is left to be declared here
-- ends as the whole.
pub record Declared (k : Known) (all left : List BoundVariables) (self : Called) (f g : Frame)
    (old new : Content) : Type 0 where
  pub more : List Value
  pub frame : g ≡ with_more more f
  pub same : declare (variables k left) self g (world_of new) ≡
      declare (variables k all) self f (world_of old)
  pub stays : Stays old new

append_none : {A : Type 0} (xs : List A) → xs ≡ xs ++ []
append_none [] = refl
append_none (x ∷ xs) = ap (λ ys. x ∷ ys) (append_none xs)

-- none is made as they start
pub none_declared : (k : Known) (all : List BoundVariables) (self : Called) (f : Frame)
    (old : Content) → Declared k all all self f f old old
none_declared k all self f old = record {
  more = [];
  frame = ap (λ (vs : List Value). record f { variables = vs }) (append_none f.variables);
  same = refl;
  stays = stays_same old;
}

take_same : {A : Type 0} (xs ys : List A) → take (length xs) (xs ++ ys) ≡ xs
take_same [] ys = refl
take_same (x ∷ xs) ys = ap (λ zs. x ∷ zs) (take_same xs ys)

take_own : {A : Type 0} (xs : List A) → take (length xs) xs ≡ xs
take_own [] = refl
take_own (x ∷ xs) = ap (λ zs. x ∷ zs) (take_own xs)

-- those that are made leave the others as they were
pub declared_kept : (k : Known) (all left : List BoundVariables) (self : Called) (f g : Frame)
    (old new : Content) → Declared k all left self f g old new →
    first_of (length f.variables) (length f.cursors) g ≡ f
declared_kept k all left self f g old new d =
    ap (first_of (length f.variables) (length f.cursors)) d.frame
    ∙ (λ i. record f {
      variables = take_same f.variables d.more i;
      cursors = take_own f.cursors i;
    })

-- all are made
pub declared_all : (k : Known) (all : List BoundVariables) (i : ℕ) (self : Called) (f g : Frame)
    (old new : Content) → length all ≤ i → Declared k all (drop i all) self f g old new →
    Ended old new (Ok g) (declare (variables k all) self f (world_of old))
declared_all k all i self f g old new h d = record {
  tells = sym d.same ∙ ap (λ (vs : List BoundVariables).
      declare (variables k vs) self g (world_of new)) (drop_all i all h);
  stays = d.stays;
}

module _ (k : Known) (all : List BoundVariables) (i : ℕ) (x : BoundVariables) (self : Called)
    (f g : Frame) (old now mid : Content) (within : i < length all) (is : x ≡ get_or all i x)
    (d : Declared k all (drop i all) self f g old now) where
  -- what is left, by the next declaration
  left_is : declare (variables k all) self f (world_of old) ≡
      after (default_in k x.default x.data_type self g (world_of now))
      (λ v. declare (variables k (drop (i + 1) all)) self (with_more (replicate x.count v) g))
  left_is =
      sym d.same
      ∙ ap (λ (vs : List BoundVariables). declare (variables k vs) self g (world_of now))
      (rest all i x within is)
      ∙ declare_at k x.default x.count x.data_type (drop (i + 1) all) self g (world_of now)

  -- its default is a value
  pub declared_next : (v : Value) (h : Frame) →
      Ended now mid (Ok v) (default_in k x.default x.data_type self g (world_of now)) →
      h ≡ with_more (replicate x.count v) g → Declared k all (drop (i + 1) all) self f h old mid
  declared_next v h e made = record {
    more = d.more ++ replicate x.count v;
    frame = made
        ∙ ap (with_more (replicate x.count v)) d.frame
        ∙ ap (λ (vs : List Value). record f { variables = vs })
        (append_assoc f.variables d.more (replicate x.count v));
    same = ap (λ (y : Frame). declare (variables k (drop (i + 1) all)) self y (world_of mid)) made
        ∙ sym (left_is ∙ ap (λ (z : Ends Value). after z (λ v.
        declare (variables k (drop (i + 1) all)) self (with_more (replicate x.count v) g))) e.tells);
    stays = stays_on old now mid d.stays e.stays;
  }

  -- its default stops
  pub declared_stops : (s : Stop) →
      Ended {A = Value} now mid (Err s)
      (default_in k x.default x.data_type self g (world_of now)) →
      Ended {A = Frame} old mid (Err s) (declare (variables k all) self f (world_of old))
  declared_stops (Raised area) e = record {
    tells = left_is ∙ ap (λ (z : Ends Value). after z (λ v.
        declare (variables k (drop (i + 1) all)) self (with_more (replicate x.count v) g))) e.tells;
    stays = stays_on old now mid d.stays e.stays;
  }
  declared_stops Spent e = record {
    tells = left_is ∙ ap (λ (z : Ends Value). after z (λ v.
        declare (variables k (drop (i + 1) all)) self (with_more (replicate x.count v) g))) e.tells;
    stays = stays_on old now mid d.stays e.stays;
  }
  declared_stops NoRoom e =
      record { tells = tt; stays = stays_on old now mid d.stays e.stays }

-- what is left counts less
pub variables_cost-rest : (k : Known) (all : List BoundVariables) (i : ℕ) (x : BoundVariables) →
    i < length all → x ≡ get_or all i x → variables_cost (variables k (drop i all)) ≡
    perhaps_cost (perhaps k x.default) + variables_cost (variables k (drop (i + 1) all)) + 1
variables_cost-rest k all i x h is =
    ap (λ (vs : List BoundVariables). variables_cost (variables k vs)) (rest all i x h is)
