-- The answer of a query's plan is how the query ends; and what a change of rows makes of it.
use Rattle.std.proofs.Common.{◌≡◌, ℕ, suc, List, [], ◌∷◌, length, Ok, Err, refl, sym, ap, ◌∙◌}
use Rattle.std.proofs.Common.{subst, Bool, true, false, if◌then◌else◌}
use Rattle.row_types.specs.Rows.{Row}
use Rattle.row_types.specs.Cells.{PlanRow, value_rows, cells_end, with_value, with_values}
use Rattle.rel_algebra.specs.Tree.{Query}
use Rattle.rel_algebra.specs.World.{World, Ends, Eval, Gives, Raises, ◌>>=◌, after, unit_of, unit}
use Rattle.rel_algebra.specs.World.{no_self, no_frame, with_tables}
use Rattle.rel_algebra.specs.Meaning.{answer, ask, carried}
use Rattle.rel_algebra.specs.Endings.{Ending}
use Rattle.rel_algebra.specs.Plan.{shown, shown_rows}
use Rattle.catalog_store.specs.Catalog.{Catalog}
use Rattle.plan_exec.specs.Answers.{answer_end, shown_end}
use Rattle.plan_exec.specs.declared.collecting.Answer.{Answer}
use Rattle.plan_exec.specs.declared.collecting.Answer.TheVariants.{Rows, Raised}
use Rattle.std.specs.Prelude.{Result, IfOk}
use Rattle.sql_texts.specs.declared.memory.NoMemory.{NoMemory}
use Rattle.sql_conditions.specs.Conditions.{Area, state_in}
use Rattle.sql_conditions.specs.States.{is_exception}
use Rattle.reply_text.specs.Texts.{rows_text, area_text}
use Rattle.run_choices.specs.declared.stop.Stop.{Stop}
use Rattle.run_choices.specs.declared.stop.Stop.TheVariants as stop
use Rattle.run_expressions.specs.Content.{Content, world_of}
use Rattle.run_expressions.specs.Ending.{Ended}
use Rattle.run_expressions.proofs.Laws.{stays_same}
use Rattle.psm_effects.specs.Effects.{Effect, replied}
use Rattle.psm_effects.specs.Answering.{ends_with, HasValues}
use Rattle.psm_effects.specs.Conclusions.{database, IsEffect}

pub if_ok : {A E : Type 0} {P Q : A → Type 0} (r : Result A E) → ((a : A) → P a → Q a) → IfOk r P →
    IfOk r Q
if_ok (Ok a) f p = f a p
if_ok (Err e) f p = tt

-- ---- rows of values

cells_end-shown : (r : Row) → cells_end (shown r) ≡ Ok r
cells_end-shown [] = refl
cells_end-shown (v ∷ vs) = ap (with_value v) (cells_end-shown vs)

pub value_rows-shown : (rows : List Row) → value_rows (shown_rows rows) ≡ rows
value_rows-shown [] = refl
value_rows-shown (r ∷ rs) = ap (λ e. with_values e (value_rows (shown_rows rs)))
    (cells_end-shown r) ∙ ap (λ (more : List Row). r ∷ more) (value_rows-shown rs)

length-shown : (rows : List Row) → length (shown_rows rows) ≡ length rows
length-shown [] = refl
length-shown (r ∷ rs) = ap (λ (n : ℕ). suc n) (length-shown rs)

-- ---- answers

abbrev rows_or : List PlanRow → Ending (List PlanRow) → List PlanRow
rows_or other (Ok rows) = rows
rows_or other (Err area) = other

pub tells_end : (a : Answer) (end : Ending (List Row)) → answer_end a ≡ shown_end end →
    (w : World) → carried end w ≡ ends_with a w
tells_end (Rows rows) (Ok values) h w =
    let same : rows ≡ shown_rows values = ap (rows_or []) h in
    ap (λ (r : List Row). Gives r w) (sym (ap value_rows same ∙ value_rows-shown values))
tells_end (Rows rows) (Err area) h w = cc
tells_end (Raised s) (Ok values) h w = cc
tells_end (Raised s) (Err area) h w = cc

pub all_values : (a : Answer) (end : Ending (List Row)) → answer_end a ≡ shown_end end → HasValues a
all_values (Rows rows) (Ok values) h =
    let same : rows ≡ shown_rows values = ap (rows_or []) h in
    ap (λ (r : List PlanRow). length (value_rows r)) same ∙
    ap (λ (r : List Row). length r) (value_rows-shown values) ∙ sym (length-shown values) ∙
    sym (ap (λ (r : List PlanRow). length r) same)
all_values (Rows rows) (Err area) h = cc
all_values (Raised s) (Ok values) h = tt
all_values (Raised s) (Err area) h = tt

-- ---- changes of rows

-- a unit that raises in the world in which it began leaves that, taken back or not
same_world : (b : Bool) (w : World) → (if b then with_tables w w.tables else w) ≡ w
same_world true w = refl
same_world false w = refl

unit_raises : {A : Type 0} (area : Area) (w : World) →
    unit_of {A = A} w (Raises area w) ≡ Raises area w
unit_raises area w = ap (Raises area) (same_world (is_exception (state_in area)) w)

given_unit : (go : List Row → Eval ℕ) (q : Query) (rows : List Row) (w : World) →
    answer q no_self [] no_frame w ≡ Gives rows w
    → unit (answer q no_self [] no_frame >>= go) w ≡ unit (go rows) w
given_unit go q rows w h = ap (λ (e : Ends (List Row)). unit_of w (after e go)) h

raised_unit : (go : List Row → Eval ℕ) (q : Query) (area : Area) (w : World) →
    answer q no_self [] no_frame w ≡ Raises area w
    → unit (answer q no_self [] no_frame >>= go) w ≡ Raises area w
raised_unit go q area w h =
    ap (λ (e : Ends (List Row)). unit_of w (after e go)) h ∙ unit_raises area w

-- a change ends as it is made of its plan's rows, or as its plan raises
pub given_ends : (go : List Row → Eval ℕ) (q : Query) (rows : List PlanRow) (old new : Content)
    (r : Result ℕ Stop) → answer q no_self [] no_frame (world_of old) ≡ Gives (value_rows rows)
    (world_of old)
    → Ended old new r (unit (go (value_rows rows)) (world_of old)) →
    Ended old new r (unit (answer q no_self [] no_frame >>= go) (world_of old))
given_ends go q rows old new r h ended = subst (Ended old new r)
    (sym (given_unit go q (value_rows rows) (world_of old) h)) ended

pub raised_ends : (go : List Row → Eval ℕ) (q : Query) (area : Area) (old : Content) →
    answer q no_self [] no_frame (world_of old) ≡ Raises area (world_of old)
    → Ended {A = ℕ} old old (Err (stop.Raised area))
    (unit (answer q no_self [] no_frame >>= go) (world_of old))
raised_ends go q area old h = record {
  tells = raised_unit go q area (world_of old) h;
  stays =
      stays_same old;
}

-- ---- queries

pub rows_effect : (known : Catalog) (w : Content) (q : Query) (rows : List PlanRow)
    (reply : Result (List ℕ) NoMemory)
    → answer q no_self [] no_frame (world_of w) ≡ Gives (value_rows rows) (world_of w) →
    IfOk reply (λ r. r ≡ rows_text (value_rows rows))
    → IfOk reply (λ r. IsEffect (replied rows_text (database known w.memory) (ask q (world_of w))) r
    (database known w.memory))
rows_effect known w q rows (Ok r) h says =
    let db = database known w.memory in
    let effect_is = ap (λ (e : Ends (List Row)). replied rows_text db (unit_of (world_of w) e)) h in (
      says ∙ sym (ap (λ (e : Effect). e.reply) effect_is),
      sym
          (ap (λ (e : Effect). e.after) effect_is),
    )
rows_effect known w q rows (Err e) h says = tt

pub area_effect : (known : Catalog) (w : Content) (q : Query) (area : Area)
    (reply : Result (List ℕ) NoMemory)
    → answer q no_self [] no_frame (world_of w) ≡ Raises area (world_of w) →
    IfOk reply (λ r. r ≡ area_text area)
    → IfOk reply (λ r. IsEffect (replied rows_text (database known w.memory) (ask q (world_of w))) r
    (database known w.memory))
area_effect known w q area (Ok r) h says =
    let db = database known w.memory in
    let effect_is = ap (λ (e : Ends (List Row)). replied rows_text db (unit_of (world_of w) e)) h ∙
    ap (λ (e : Ends (List Row)). replied rows_text db e) (unit_raises area (world_of w)) in (
      says ∙ sym (ap (λ (e : Effect). e.reply) effect_is),
      sym
          (ap (λ (e : Effect). e.after) effect_is),
    )
area_effect known w q area (Err e) h says = tt
