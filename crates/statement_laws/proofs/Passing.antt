-- The arguments of CALL, one after another.
use Rattle.std.proofs.Common.{◌≡◌, List, [], ◌∷◌, ◌++◌, drop, refl, ap, ◌∙◌}
use Rattle.std.proofs.lemmas.List.{append-nil}
use Rattle.sql_values.specs.declared.value.Value.{Value}
use Rattle.sql_values.specs.declared.value.Value.TheVariants.{Null}
use Rattle.sql_values.specs.Values.{Outcome}
use Rattle.rel_algebra.specs.Tree.{Expr, Parameter, Target, Arguments, MoreValues, MoreTargets}
use Rattle.rel_algebra.specs.Tree.{MoreGiven}
use Rattle.rel_algebra.specs.World.{World, Frame, Ends, Gives, Raises, RunsOut, Eval, Called, after}
use Rattle.rel_algebra.specs.World.{give, outcome, variable_of}
use Rattle.rel_algebra.specs.Calls.{passed}
use Rattle.rel_algebra.specs.Meaning.{ev, argue}
use Rattle.statement_laws.specs.Passing.{passing, argued, ArgumentsGoOn}

after_give : {A : Type 0} (e : Ends A) → after e give ≡ e
after_give (Gives a w) = refl
after_give (Raises area w) = refl
after_give (RunsOut w) = refl

-- one more value in front of what follows
front : (values : List Value) (v : Value) (e : Ends (List Value)) →
    after (after e (λ xs. give (v ∷ xs))) (λ xs. give (values ++ xs)) ≡
    after e (λ xs. give ((values ++ v ∷ []) ++ xs))
front values v (Gives xs w) = ap (λ ys. Gives ys w) (flip values v xs)
  where
    flip : (values : List Value) (v : Value) (xs : List Value) →
        values ++ v ∷ xs ≡ (values ++ v ∷ []) ++ xs
    flip [] v xs = refl
    flip (y ∷ ys) v xs = ap (λ zs. y ∷ zs) (flip ys v xs)
front values v (Raises area w) = refl
front values v (RunsOut w) = refl

-- by how a part of an argument ends, of which a second part makes what is passed
parts : (values : List Value) (e : Ends Value) (pass : Value → Eval Value)
    (more : Eval (List Value)) →
    after (after e (λ v u. after (pass v u) (λ x t. after (more t) (λ xs. give (x ∷ xs)))))
    (λ xs. give (values ++ xs)) ≡ after (after e pass)
    (λ x t. after (more t) (λ xs. give ((values ++ x ∷ []) ++ xs)))
parts values (Gives v u) pass more = second values (pass v u) more
  where
    second : (values : List Value) (e : Ends Value) (more : Eval (List Value)) →
        after (after e (λ x t. after (more t) (λ xs. give (x ∷ xs)))) (λ xs. give (values ++ xs)) ≡
        after e (λ x t. after (more t) (λ xs. give ((values ++ x ∷ []) ++ xs)))
    second values (Gives x t) more = front values x (more t)
    second values (Raises area t) more = refl
    second values (RunsOut t) more = refl
parts values (Raises area u) pass more = refl
parts values (RunsOut u) pass more = refl

module _ (values : List Value) (args more : Arguments) (ps : List Parameter) (self : Called)
    (f : Frame) (w : World) where
  -- what follows a value that is passed
  abbrev then : Value → Eval (List Value)
  then x u = argued (values ++ x ∷ []) more (drop 1 ps) self f u

  -- by how the first value is passed
  by_value : (e : Expr) (end : Ends Value) → args ≡ MoreValues e more →
      passing e ps self f w ≡ end → argued values args ps self f w ≡ after end then
  by_value e end is h =
      ap (λ (xs : Arguments). argued values xs ps self f w) is
      ∙ parts values (ev e self [] f w) (λ v. outcome (passed ps v)) (argue more (drop 1 ps) self f)
      ∙ ap (λ (x : Ends Value). after x then) h

  -- by what its parameter makes of a variable
  by_variable : (t : Target) (o : Outcome) → args ≡ MoreTargets t more →
      passed ps (variable_of t.slot f) ≡ o →
      argued values args ps self f w ≡ after (outcome o w) then
  by_variable t o is h =
      ap (λ (xs : Arguments). argued values xs ps self f w) is
      ∙ parts values (Gives Null w) (λ v. outcome (passed ps (variable_of t.slot f)))
      (argue more (drop 1 ps) self f)
      ∙ ap (λ (x : Outcome). after (outcome x w) then) h

  by_none : args ≡ MoreGiven more → argued values args ps self f w ≡ then Null w
  by_none is =
      ap (λ (xs : Arguments). argued values xs ps self f w) is
      ∙ front values Null (argue more (drop 1 ps) self f w)

pub arguments_go_on : ArgumentsGoOn
arguments_go_on = record {
  starts = λ args ps self f w. after_give (argue args ps self f w);
  none = λ values args ps self f w is.
      ap (λ (xs : Arguments). argued values xs ps self f w) is
      ∙ ap (λ (xs : List Value). Gives xs w) (append-nil values);
  gives = λ values args e more ps self f w u v is h. by_value values args more ps self f w e _ is h;
  raises = λ values args e more ps self f w u area is h.
      by_value values args more ps self f w e _ is h;
  runs_out = λ values args e more ps self f w u is h.
      by_value values args more ps self f w e _ is h;
  variable = λ values args t more ps self f w v is h.
      by_variable values args more ps self f w t _ is h;
  refused = λ values args t more ps self f w fault is h.
      by_variable values args more ps self f w t _ is h;
  given = λ values args more ps self f w is. by_none values args more ps self f w is;
}
