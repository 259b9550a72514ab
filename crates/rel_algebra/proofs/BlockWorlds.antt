-- A block in form does among all statements what its body does by the tables alone, where its
-- expressions and queries give so.
use Rattle.std.proofs.Common.{◌≡◌, ℕ, zero, suc, Bool, true, false, cond, List, [], ◌∷◌, map}
use Rattle.std.proofs.Common.{replicate, Option, Some, None, Ok, Err, refl, ap, sym, ◌∙◌, subst}
use Rattle.std.proofs.Common.{◌++◌, ◌-◌, pos, if◌then◌else◌}
use Rattle.std.specs.List.{list_any}
use Rattle.sql_values.specs.declared.value.Value.{Value}
use Rattle.sql_values.specs.declared.value.Value.TheVariants.{Null, Int, Str, Bool as Truth}
use Rattle.sql_values.specs.declared.value.SqlType.{SqlType}
use Rattle.sql_values.specs.Values.{is_null, is_true}
use Rattle.sql_values.specs.Casts.{assigned}
use Rattle.sql_conditions.specs.declared.condition.Condition.{Condition}
use Rattle.sql_conditions.specs.Conditions.{Area, area_of}
use Rattle.sql_conditions.specs.declared.condition.EngineCondition.TheVariants.{SeveralRows}
use Rattle.row_types.specs.Rows.{Row}
use Rattle.rel_algebra.specs.Endings.{Ending, after, ending_of, equal_values}
use Rattle.rel_algebra.specs.Plain.{Inputs, answer, branches_meant, ev, handlers_meant}
use Rattle.rel_algebra.specs.Plain.{perhaps_meant, stmt_meant, stmts_meant, variables_meant}
use Rattle.rel_algebra.specs.Meaning as full
use Rattle.rel_algebra.specs.Meaning.{carried}
use Rattle.rel_algebra.specs.OnConditions.{condition_numbered, item_of}
use Rattle.rel_algebra.specs.States.{one_condition, no_data}
use Rattle.rel_algebra.specs.World as worlds
use Rattle.rel_algebra.specs.World.{World, Called, Calling, Ends, Eval, choose}
use Rattle.rel_algebra.specs.Doing as doing
use Rattle.rel_algebra.specs.Handlers as handlers
use Rattle.rel_algebra.specs.Diagnostics as diagnostics
use Rattle.rel_algebra.specs.Calls as callings
use Rattle.rel_algebra.specs.Tree.{Expr, Query, Target, Stacked, StatementItem, Number, RowCount}
use Rattle.rel_algebra.specs.Tree.{StatementRead, ConditionItem, ReturnedSqlstate, MessageText}
use Rattle.rel_algebra.specs.Tree.{ConditionRead}
use Rattle.rel_algebra.specs.Tree.{Function, Perhaps, Without, With, Variables, NoVariable}
use Rattle.rel_algebra.specs.Tree.{MoreVariables, Stmt, Compound, If, SearchedCase, SimpleCase, Set}
use Rattle.rel_algebra.specs.Tree.{SelectInto, Signal, Resignal, GetStatementItems}
use Rattle.rel_algebra.specs.Tree.{GetConditionItems, Leave, Return, Stmts, NoStmt, MoreStmts}
use Rattle.rel_algebra.specs.Tree.{Branches, NoBranch, MoreBranches, Handlers, NoHandler}
use Rattle.rel_algebra.specs.Tree.{MoreHandlers}
use Rattle.rel_algebra.specs.Bodies as body
use Rattle.rel_algebra.specs.Bodies.{word_of}
use Rattle.rel_algebra.specs.BodyDoing.{Frame, Outcome, Next, Leaving, Returning, Exiting, Raising}
use Rattle.rel_algebra.specs.BodyDoing.{Doing, ends, storing, take_values}
use Rattle.rel_algebra.specs.BodyHandlers.{Handling, Scopes, with_value, with_end}
use Rattle.rel_algebra.specs.BodyMeaning as meaning
use Rattle.rel_algebra.specs.BodyMeaning.{Context, inside_scopes, in_action, seen, one_row}
use Rattle.rel_algebra.specs.BodyMeaning.{with_text, or_empty, again_as, resignalling}
use Rattle.rel_algebra.specs.BodyMeaning.{statement_item, statement_targets, statement_values}
use Rattle.rel_algebra.specs.BodyMeaning.{condition_targets, condition_values, reading_into}
use Rattle.rel_algebra.specs.BodyMeaning.{getting_area, of_condition, getting_condition}
use Rattle.rel_algebra.specs.BodyMeaning.{returned_or, call, no_context}
use Rattle.rel_algebra.proofs.BodyRaises.{Fails, ending_fails, fails_after}
use Rattle.rel_algebra.proofs.BodySame.{Does, Gives, Same, SameHandlings, SameScopes, called_same}
use Rattle.rel_algebra.proofs.BodySame.{ends_same, failing_same, in_turn_same, outcome_of}
use Rattle.rel_algebra.proofs.BodySame.{outcome_same, raising_same, storing_same, take_fails}
use Rattle.rel_algebra.proofs.BodySame.{take_same, then_same, unit_same, value_same}
use Rattle.rel_algebra.proofs.BodyWholes.{compound_same, with_frame}

-- ---- each expression, and each query with the targets of its SELECT INTO

-- what holds of an expression that may be left out
abbrev pub PerhapsEach : Perhaps → (Expr → Type 0) → Type 0
PerhapsEach Without P = Unit {0}
PerhapsEach (With e) P = P e

-- of each default of declarations
abbrev pub VariablesEach : Variables → (Expr → Type 0) → Type 0
VariablesEach NoVariable P = Unit {0}
VariablesEach (MoreVariables k t default others) P = PerhapsEach default P × VariablesEach others P

-- in what is in form
abbrev mutual
  -- in a statement
  pub Each : Stmt → (Expr → Type 0) → (Query → List Target → Type 0) → Type 0
  Each (Compound atomic variables zero handlers statements) P Q = VariablesEach variables P
      × HandlersEach handlers P Q × AllEach statements P Q
  Each (If branches otherwise) P Q = BranchesEach branches P Q × AllEach otherwise P Q
  Each (SearchedCase branches otherwise) P Q = BranchesEach branches P Q × AllEach otherwise P Q
  Each (SimpleCase e branches otherwise) P Q = P e × BranchesEach branches P Q
      × AllEach otherwise P Q
  Each (Set t e) P Q = P e
  Each (SelectInto query targets) P Q = Q query targets
  Each (Signal state text) P Q = PerhapsEach text P
  Each (Resignal state text) P Q = PerhapsEach text P
  Each (GetStatementItems Stacked reads) P Q = Unit {0}
  Each (GetConditionItems Stacked number reads) P Q = P number
  Each (Leave outwards) P Q = Unit {0}
  Each (Return e) P Q = P e
  Each _ P Q = ⊥

  -- in statements
  pub AllEach : Stmts → (Expr → Type 0) → (Query → List Target → Type 0) → Type 0
  AllEach NoStmt P Q = Unit {0}
  AllEach (MoreStmts s ss) P Q = Each s P Q × AllEach ss P Q

  -- in tests with their statements
  pub BranchesEach : Branches → (Expr → Type 0) → (Query → List Target → Type 0) → Type 0
  BranchesEach NoBranch P Q = Unit {0}
  BranchesEach (MoreBranches test statements others) P Q = P test × AllEach statements P Q
      × BranchesEach others P Q

  -- in handlers
  pub HandlersEach : Handlers → (Expr → Type 0) → (Query → List Target → Type 0) → Type 0
  HandlersEach NoHandler P Q = Unit {0}
  HandlersEach (MoreHandlers kind takes action others) P Q = Each action P Q
      × HandlersEach others P Q

-- ---- what statements do by the tables alone

-- the tables of a world; no function in form reads an argument of the whole query
abbrev pub tables_of : World → List Value → Inputs
tables_of w args = record { tables = w.tables; args = args }

-- the value of an expression in a frame
abbrev pub value_in : Inputs → Expr → Frame → Ending Value
value_in w e f = ev e w (seen f)

-- an expression that may be left out
abbrev perhaps_in : Inputs → Perhaps → Frame → Ending (Option Value)
perhaps_in w text = meaning.perhaps_in w (perhaps_meant text)

-- the variables of a compound statement, after those in sight
abbrev declare : Variables → Inputs → Frame → Ending Frame
declare variables = meaning.declare (variables_meant variables)

-- what a statement does
abbrev does : Stmt → Inputs → Context → Doing
does s = meaning.does (stmt_meant s)

-- statements in their order
abbrev does_all : Stmts → Inputs → Context → Doing
does_all ss = meaning.does_all (stmts_meant ss)

-- the statements of ELSE
abbrev does_else : Stmts → Inputs → Context → Doing
does_else ss = meaning.does_else (stmts_meant ss)

-- the statements of the first test that is true
abbrev does_branches : Branches → Inputs → Context → Doing → Doing
does_branches branches = meaning.does_branches (branches_meant branches)

-- those of the first value that is equal
abbrev does_matching : Branches → Value → Inputs → Context → Doing → Doing
does_matching branches = meaning.does_matching (branches_meant branches)

-- the handlers of a compound statement
abbrev handlings : Handlers → Inputs → ℕ → Scopes → List Handling
handlings hs = meaning.handlings (handlers_meant hs)

-- ---- what is asked of expressions and queries, whatever a self-call means

-- an expression has its value by the tables alone, and what it raises is an exception
abbrev pub ExprGives : World → List Value → Expr → Type 0
ExprGives w args e =
    ((self : Called) (f : worlds.Frame) → Gives w (full.ev e self [] f)
    (value_in (tables_of w args) e f.variables))
    × ((vs : Frame) → Fails (value_in (tables_of w args) e vs))

-- so has a query its rows
abbrev pub QueryGives : World → List Value → Query → List Target → Type 0
QueryGives w args q targets =
    ((self : Called) (f : worlds.Frame) → Gives w (full.answer q self [] f)
    (answer q (tables_of w args) (seen f.variables)))
    × ((vs : Frame) → Fails (answer q (tables_of w args) (seen vs)))

-- ---- SELECT INTO

-- the values of the one row; none of no row
abbrev maybe_row : List Target → List Row → Ending (Option (List Value))
maybe_row targets [] = Ok None
maybe_row targets (r ∷ []) = after (take_values targets r) (λ vs. Ok (Some vs))
maybe_row targets _ = Err (area_of SeveralRows)

maybe_gives : (w : World) (targets : List Target) (rows : List Row) →
    Gives w (full.one_row targets rows) (maybe_row targets rows)
maybe_gives w targets [] = refl
maybe_gives w targets (r ∷ []) = then_same w (doing.take_values targets r) (take_values targets r)
    (λ vs. worlds.give (Some vs)) (λ vs. Ok (Some vs)) (take_same w targets r) (λ vs. refl)
maybe_gives w targets (r ∷ s ∷ rows) = refl

-- no row raises in the place of the statement, here and there
row_same : (w : World) (ss : handlers.Scopes) (ts : Scopes) → SameScopes w ss ts →
    (targets : List Target) (e : Ending (List Row)) → Fails e → (f : worlds.Frame) →
    Same w (handlers.with_end ss (carried (after e (maybe_row targets)) w) f
    (full.found ss targets))
    (with_end ts (after e (one_row targets)) f.variables (storing targets))
row_same w ss ts c targets (Err area) h f = failing_same w ss ts c area h f
row_same w ss ts c targets (Ok []) h f = raising_same w ss ts c no_data f
row_same w ss ts c targets (Ok (r ∷ [])) h f =
    of_row (take_values targets r) (take_fails targets r)
  where
    of_row : (x : Ending (List Value)) → Fails x →
        Same w (handlers.with_end ss (carried (after x (λ vs. Ok (Some vs))) w) f
        (full.found ss targets)) (with_end ts x f.variables (storing targets))
    of_row (Ok vs) k = storing_same w targets vs f
    of_row (Err area) k = failing_same w ss ts c area k f
row_same w ss ts c targets (Ok (r ∷ s ∷ rows)) h f = failing_same w ss ts c _ refl f

into_same : (q : Query) (self : Called) (w : World) (args : List Value) (ss : handlers.Scopes)
    (ts : Scopes) → SameScopes w ss ts → (targets : List Target) → QueryGives w args q targets →
    Does w (handlers.with_value ss (λ f w. worlds.after (full.answer q self [] f w)
    (full.one_row targets)) (full.found ss targets))
    (with_value ts (λ f. after (answer q (tables_of w args) (seen f)) (one_row targets))
    (storing targets))
into_same q self w args ss ts c targets p f = let rows = answer q (tables_of w args)
    (seen f.variables) in
    subst (λ (d : Ends (Option (List Value))). Same w (handlers.with_end ss d f
    (full.found ss targets))
    (with_end ts (after rows (one_row targets)) f.variables (storing targets)))
    (sym (unit_same w (λ u. worlds.after (full.answer q self [] f u) (full.one_row targets))
    (after rows (maybe_row targets))
    (then_same w (full.answer q self [] f) rows (full.one_row targets) (maybe_row targets)
    (p.0 self f) (maybe_gives w targets))))
    (row_same w ss ts c targets rows (p.1 f.variables) f)

-- ---- SIGNAL and RESIGNAL

perhaps_gives : (x : Perhaps) (self : Called) (w : World) (args : List Value) →
    PerhapsEach x (ExprGives w args) → (f : worlds.Frame) →
    Gives w (full.ev_perhaps x self f) (perhaps_in (tables_of w args) x f.variables)
perhaps_gives Without self w args p f = refl
perhaps_gives (With e) self w args p f =
    then_same w (full.ev e self [] f) (value_in (tables_of w args) e f.variables)
    (λ v. worlds.give (Some v)) (λ v. Ok (Some v)) (p.0 self f) (λ v. refl)

perhaps_fails : (x : Perhaps) (w : World) (args : List Value) → PerhapsEach x (ExprGives w args) →
    (vs : Frame) → Fails (perhaps_in (tables_of w args) x vs)
perhaps_fails Without w args p vs = tt
perhaps_fails (With e) w args p vs =
    fails_after (value_in (tables_of w args) e vs) _ (p.1 vs) (λ v. tt)

text_same : (w : World) (ss : handlers.Scopes) (ts : Scopes) → SameScopes w ss ts →
    (v : Option Value) (go : Option (List ℕ) → doing.Doing) (next : Option (List ℕ) → Doing) →
    ((s : Option (List ℕ)) → Does w (go s) (next s)) →
    Does w (diagnostics.with_text ss v go) (with_text ts v next)
text_same w ss ts c None go next h = h None
text_same w ss ts c (Some (Str s)) go next h = h (Some s)
text_same w ss ts c (Some Null) go next h = failing_same w ss ts c _ refl
text_same w ss ts c (Some (Int n)) go next h = failing_same w ss ts c _ refl
text_same w ss ts c (Some (Truth b)) go next h = failing_same w ss ts c _ refl

resignal_same : (w : World) (ss : handlers.Scopes) (ts : Scopes) → SameScopes w ss ts →
    (stacked : Option Area) (state : Option (List ℕ)) (x : Perhaps) (self : Called)
    (args : List Value) → PerhapsEach x (ExprGives w args) →
    Does w (diagnostics.resignalling stacked state ss (full.ev_perhaps x self))
    (resignalling stacked state ts (perhaps_in (tables_of w args) x))
resignal_same w ss ts c None state x self args p = failing_same w ss ts c _ refl
resignal_same w ss ts c (Some area) state x self args p =
    value_same w ss ts c (full.ev_perhaps x self) (perhaps_in (tables_of w args) x)
    (perhaps_gives x self w args p) (perhaps_fails x w args p) _ _
    (λ v. text_same w ss ts c v _ _ (λ s. raising_same w ss ts c (again_as state s area)))

-- ---- GET STACKED DIAGNOSTICS

reading_same : (w : World) (ss : handlers.Scopes) (ts : Scopes) → SameScopes w ss ts →
    (targets : List Target) (vs : List Value) →
    Does w (diagnostics.reading_into ss targets vs) (reading_into ts targets vs)
reading_same w ss ts c targets vs =
    called_same w ss ts c (λ f. doing.take_values targets vs) (λ f. take_values targets vs)
    (λ f. take_same w targets vs) (λ f. take_fails targets vs) _ _
    (λ xs f. record { outcome = refl; frame = refl; world = refl; told = tt })

statement_item_same : (area : Area) (i : StatementItem) →
    diagnostics.statement_item (record { area = area; row_count = 0 }) i ≡ statement_item area i
statement_item_same area Number = refl
statement_item_same area RowCount = refl

statement_targets_same : (rs : List StatementRead) →
    map (λ (x : StatementRead). x.target) rs ≡ statement_targets rs
statement_targets_same [] = refl
statement_targets_same (r ∷ rs) = ap (λ ts. r.target ∷ ts) (statement_targets_same rs)

statement_values_same : (area : Area) (rs : List StatementRead) →
    map (λ (x : StatementRead). diagnostics.statement_item
    (record { area = area; row_count = 0 }) x.item) rs ≡ statement_values area rs
statement_values_same area [] = refl
statement_values_same area (r ∷ rs) =
    λ i. statement_item_same area r.item i ∷ statement_values_same area rs i

area_same : (w : World) (ss : handlers.Scopes) (ts : Scopes) → SameScopes w ss ts →
    (stacked : Option Area) (rs : List StatementRead) →
    Does w (diagnostics.getting_area (diagnostics.stacked_reading stacked) ss rs)
    (getting_area stacked ts rs)
area_same w ss ts c None rs = failing_same w ss ts c _ refl
area_same w ss ts c (Some area) rs =
    subst (λ (d : doing.Doing). Does w d (getting_area (Some area) ts rs))
    (λ i. diagnostics.reading_into ss (sym (statement_targets_same rs) i)
    (sym (statement_values_same area rs) i))
    (reading_same w ss ts c (statement_targets rs) (statement_values area rs))

condition_item_same : (x : Condition) (i : ConditionItem) →
    diagnostics.condition_item x i ≡ item_of (word_of i) x
condition_item_same x ReturnedSqlstate = refl
condition_item_same x MessageText = refl

condition_targets_same : (rs : List ConditionRead) →
    map (λ (x : ConditionRead). x.target) rs ≡ condition_targets rs
condition_targets_same [] = refl
condition_targets_same (r ∷ rs) = ap (λ ts. r.target ∷ ts) (condition_targets_same rs)

condition_values_same : (x : Condition) (rs : List ConditionRead) →
    map (λ (r : ConditionRead). diagnostics.condition_item x r.item) rs ≡ condition_values x rs
condition_values_same x [] = refl
condition_values_same x (r ∷ rs) =
    λ i. condition_item_same x r.item i ∷ condition_values_same x rs i

of_condition_same : (w : World) (ss : handlers.Scopes) (ts : Scopes) → SameScopes w ss ts →
    (x : Option Condition) (rs : List ConditionRead) →
    Does w (diagnostics.of_condition x ss rs) (of_condition x ts rs)
of_condition_same w ss ts c None rs = failing_same w ss ts c _ refl
of_condition_same w ss ts c (Some x) rs =
    subst (λ (d : doing.Doing). Does w d (of_condition (Some x) ts rs))
    (λ i. diagnostics.reading_into ss (sym (condition_targets_same rs) i)
    (sym (condition_values_same x rs) i))
    (reading_same w ss ts c (condition_targets rs) (condition_values x rs))

numbered_same : (v : Value) (area : Area) →
    diagnostics.condition_numbered v area ≡ condition_numbered v area
numbered_same (Int (pos (suc n))) area = refl
numbered_same _ area = refl

condition_same : (w : World) (ss : handlers.Scopes) (ts : Scopes) → SameScopes w ss ts →
    (stacked : Option Area) (number : Expr) (rs : List ConditionRead) (self : Called)
    (args : List Value) → ExprGives w args number →
    Does w (diagnostics.getting_condition (diagnostics.stacked_reading stacked) ss
    (full.ev number self []) rs)
    (getting_condition stacked ts (value_in (tables_of w args) number) rs)
condition_same w ss ts c None number rs self args p = failing_same w ss ts c _ refl
condition_same w ss ts c (Some area) number rs self args p =
    value_same w ss ts c (full.ev number self []) (value_in (tables_of w args) number)
    (p.0 self) p.1 _ _
    (λ n. subst (λ (x : Option Condition). Does w (diagnostics.of_condition x ss rs)
    (of_condition (condition_numbered n area) ts rs)) (sym (numbered_same n area))
    (of_condition_same w ss ts c (condition_numbered n area) rs))

-- ---- declarations

after_after : {A B C : Type 0} (e : Ending A) (go : A → Ending B) (next : B → Ending C) →
    after (after e go) next ≡ after e (λ a. after (go a) next)
after_after (Ok a) go next = refl
after_after (Err area) go next = refl

declare_gives : (vs : Variables) (self : Called) (w : World) (args : List Value) →
    VariablesEach vs (ExprGives w args) → (f : worlds.Frame) →
    full.declare vs self f w
    ≡ carried (with_frame f (declare vs (tables_of w args) f.variables)) w
declare_gives NoVariable self w args p f = refl
declare_gives (MoreVariables n t Without more) self w args p f =
    declare_gives more self w args p.1 (doing.with_more (replicate n Null) f)
declare_gives (MoreVariables n t (With e) more) self w args p f =
    let g = tables_of w args in let x = value_in g e f.variables in
    let v : Ending Value = after x (λ y. ending_of (assigned t y)) in
    let rest : Value → Ending Frame = λ v. declare more g (f.variables ++ replicate n v) in
    then_same w (worlds.unit (λ u. worlds.after (full.ev e self [] f u)
    (λ y. worlds.outcome (assigned t y)))) v
    (λ v. full.declare more self (doing.with_more (replicate n v) f))
    (λ v. with_frame f (rest v))
    (unit_same w (λ u. worlds.after (full.ev e self [] f u) (λ y. worlds.outcome (assigned t y)))
    v (then_same w (full.ev e self [] f) x (λ y. worlds.outcome (assigned t y))
    (λ y. ending_of (assigned t y)) (p.0.0 self f)
    (λ y. outcome_same w (assigned t y))))
    (λ v. declare_gives more self w args p.1 (doing.with_more (replicate n v) f))
    ∙ ap (λ (d : Ending worlds.Frame). carried d w)
    (sym (after_after v rest (λ vs. Ok (doing.with_variables vs f)))
    ∙ ap (with_frame f) (after_after x (λ y. ending_of (assigned t y)) rest))

declare_fails : (vs : Variables) (w : World) (args : List Value) →
    VariablesEach vs (ExprGives w args) → (f : Frame) → Fails (declare vs (tables_of w args) f)
declare_fails NoVariable w args p f = tt
declare_fails (MoreVariables n t Without more) w args p f =
    declare_fails more w args p.1 (f ++ replicate n Null)
declare_fails (MoreVariables n t (With e) more) w args p f =
    fails_after (value_in (tables_of w args) e f) _ (p.0.1 f)
    (λ x. fails_after (ending_of (assigned t x)) _ (ending_fails (assigned t x))
    (λ v. declare_fails more w args p.1 (f ++ replicate n v)))

-- ---- all statements

choose_same : (w : World) (v : Value) (d e : doing.Doing) (p q : Doing) → Does w d p → Does w e q →
    Does w (choose v d e) (choose v p q)
choose_same w v d e p q h k = either (is_true v)
  where
    either : (b : Bool) → Does w (cond b d e) (cond b p q)
    either true = h
    either false = k

-- the same place among all statements, whatever a self-call means there
abbrev placed : Called → Calling → handlers.Scopes → Context → full.Context
placed self again ss c = record {
  self = self;
  again = again;
  scopes = ss;
  level = c.level;
  stacked = c.stacked;
}

-- what holds of every statement: in every place that is the same
abbrev In : World → (full.Context → doing.Doing) → (Context → Doing) → Type 0
In w d p = (self : Called) (again : Calling) (ss : handlers.Scopes) (c : Context) →
    SameScopes w ss c.scopes → Does w (d (placed self again ss c)) (p c)

tested : (w : World) (args : List Value) (e : Expr) → ExprGives w args e →
    (go : full.Context → Value → doing.Doing) (next : Context → Value → Doing) →
    ((v : Value) → In w (λ c. go c v) (λ c. next c v)) →
    In w (λ c. handlers.with_value c.scopes (full.ev e c.self []) (go c))
    (λ c. with_value c.scopes (value_in (tables_of w args) e) (next c))
tested w args e p go next h self again ss c s =
    value_same w ss c.scopes s (full.ev e self []) (value_in (tables_of w args) e)
    (p.0 self) p.1 (go (placed self again ss c)) (next c) (λ v. h v self again ss c s)

mutual
  stmt_same : (s : Stmt) (w : World) (args : List Value) →
      Each s (ExprGives w args) (QueryGives w args) →
      In w (full.does s) (does s (tables_of w args))
  stmt_same (Compound atomic variables zero hs body) w args p self again ss c s =
      compound_same w atomic c.level ss c.scopes s (full.declare variables self)
      (declare variables (tables_of w args)) (declare_gives variables self w args p.0)
      (declare_fails variables w args p.0)
      (λ outer. full.handlings hs (placed self again ss c) outer)
      (λ outer. handlings hs (tables_of w args) c.level outer)
      (λ outer within e. handlers_same hs w args p.1 self again ss c outer within e)
      (λ outer. full.does_all body
      (full.inside_scopes outer (placed self again ss c)))
      (λ outer. does_all body (tables_of w args) (inside_scopes outer c))
      (λ outer within e. all_same body w args p.2 self again outer (inside_scopes within c) e)
  stmt_same (If branches otherwise) w args p self again ss c s =
      branches_same branches w args p.0 (full.does_all otherwise)
      (does_all otherwise (tables_of w args)) (all_same otherwise w args p.1)
      self again ss c s
  stmt_same (SearchedCase branches otherwise) w args p self again ss c s =
      branches_same branches w args p.0 (full.does_else otherwise)
      (does_else otherwise (tables_of w args)) (else_same otherwise w args p.1)
      self again ss c s
  stmt_same (SimpleCase e branches otherwise) w args p self again ss c s =
      tested w args e p.0 (λ c x. full.does_matching branches x c
      (full.does_else otherwise c))
      (λ c x. does_matching branches x (tables_of w args) c
      (does_else otherwise (tables_of w args) c))
      (λ x. matching_same branches x w args p.1 (full.does_else otherwise)
      (does_else otherwise (tables_of w args)) (else_same otherwise w args p.2))
      self again ss c s
  stmt_same (Set t e) w args p self again ss c s =
      value_same w ss c.scopes s
      (λ f u. worlds.after (full.ev e self [] f u) (λ v. doing.take_values (t ∷ []) (v ∷ [])))
      (λ f. after (value_in (tables_of w args) e f) (λ v. take_values (t ∷ []) (v ∷ [])))
      (λ f. then_same w (full.ev e self [] f) (value_in (tables_of w args) e f.variables)
      (λ v. doing.take_values (t ∷ []) (v ∷ [])) (λ v. take_values (t ∷ []) (v ∷ []))
      (p.0 self f) (λ v. take_same w (t ∷ []) (v ∷ [])))
      (λ vs. fails_after (value_in (tables_of w args) e vs) _
      (p.1 vs) (λ v. take_fails (t ∷ []) (v ∷ [])))
      (doing.storing (t ∷ [])) (storing (t ∷ [])) (storing_same w (t ∷ []))
  stmt_same (SelectInto query targets) w args p self again ss c s =
      into_same query self w args ss c.scopes s targets p
  stmt_same (Signal state x) w args p self again ss c s =
      value_same w ss c.scopes s (full.ev_perhaps x self) (perhaps_in (tables_of w args) x)
      (perhaps_gives x self w args p) (perhaps_fails x w args p) _ _
      (λ v. text_same w ss c.scopes s v _ _
      (λ m. raising_same w ss c.scopes s (one_condition state (or_empty m))))
  stmt_same (Resignal state x) w args p self again ss c s =
      resignal_same w ss c.scopes s c.stacked state x self args p
  stmt_same (GetStatementItems Stacked reads) w args p self again ss c s =
      area_same w ss c.scopes s c.stacked reads
  stmt_same (GetConditionItems Stacked number reads) w args p self again ss c s =
      condition_same w ss c.scopes s c.stacked number reads self args p
  stmt_same (Leave outwards) w args p self again ss c s =
      ends_same w (Leaving (c.level - suc outwards)) tt
  stmt_same (Return e) w args p self again ss c s =
      tested w args e p (λ c v. doing.ends (doing.Returning v)) (λ c v. ends (Returning v))
      (λ v self again ss c s. ends_same w (Returning v) tt) self again ss c s
  stmt_same _ w args p self again ss c s = absurd p

  all_same : (xs : Stmts) (w : World) (args : List Value) →
      AllEach xs (ExprGives w args) (QueryGives w args) →
      In w (full.does_all xs) (does_all xs (tables_of w args))
  all_same NoStmt w args p self again ss c s = ends_same w Next tt
  all_same (MoreStmts x xs) w args p self again ss c s =
      let d = placed self again ss c in let g = tables_of w args in
      in_turn_same w (full.does x d) (full.does_all xs d)
      (does x g c) (does_all xs g c) (stmt_same x w args p.0 self again ss c s)
      (all_same xs w args p.1 self again ss c s)

  else_same : (xs : Stmts) (w : World) (args : List Value) →
      AllEach xs (ExprGives w args) (QueryGives w args) →
      In w (full.does_else xs) (does_else xs (tables_of w args))
  else_same NoStmt w args p self again ss c s = failing_same w ss c.scopes s _ refl
  else_same (MoreStmts x xs) w args p self again ss c s =
      let d = placed self again ss c in let g = tables_of w args in
      in_turn_same w (full.does x d) (full.does_all xs d)
      (does x g c) (does_all xs g c) (stmt_same x w args p.0 self again ss c s)
      (all_same xs w args p.1 self again ss c s)

  branches_same : (bs : Branches) (w : World) (args : List Value) →
      BranchesEach bs (ExprGives w args) (QueryGives w args) → (d : full.Context → doing.Doing)
      (p : Context → Doing) → In w d p →
      In w (λ c. full.does_branches bs c (d c))
      (λ c. does_branches bs (tables_of w args) c (p c))
  branches_same NoBranch w args h d p k = k
  branches_same (MoreBranches test body others) w args h d p k =
      tested w args test h.0 (λ c v. choose v (full.does_all body c)
      (full.does_branches others c (d c)))
      (λ c v. choose v (does_all body (tables_of w args) c)
      (does_branches others (tables_of w args) c (p c)))
      (λ v self again ss c s. choose_same w v _ _ _ _
      (all_same body w args h.1 self again ss c s)
      (branches_same others w args h.2 d p k self again ss c s))

  matching_same : (bs : Branches) (x : Value) (w : World) (args : List Value) →
      BranchesEach bs (ExprGives w args) (QueryGives w args) →
      (d : full.Context → doing.Doing) (p : Context → Doing) → In w d p →
      In w (λ c. full.does_matching bs x c (d c))
      (λ c. does_matching bs x (tables_of w args) c (p c))
  matching_same NoBranch x w args h d p k = k
  matching_same (MoreBranches e body others) x w args h d p k =
      tested w args e h.0 (λ c y. choose (equal_values x y) (full.does_all body c)
      (full.does_matching others x c (d c)))
      (λ c y. choose (equal_values x y) (does_all body (tables_of w args) c)
      (does_matching others x (tables_of w args) c (p c)))
      (λ y self again ss c s. choose_same w (equal_values x y) _ _ _ _
      (all_same body w args h.1 self again ss c s)
      (matching_same others x w args h.2 d p k self again ss c s))

  handlers_same : (hs : Handlers) (w : World) (args : List Value) →
      HandlersEach hs (ExprGives w args) (QueryGives w args) →
      (self : Called) (again : Calling) (ss : handlers.Scopes) (c : Context)
      (outer : handlers.Scopes) (within : Scopes) → SameScopes w outer within →
      SameHandlings w (full.handlings hs (placed self again ss c) outer)
      (handlings hs (tables_of w args) c.level within)
  handlers_same NoHandler w args p self again ss c outer within e = tt
  handlers_same (MoreHandlers kind takes action others) w args p self again ss c outer within
      e = (
        record {
          kind = refl;
          takes = refl;
          action = λ area. stmt_same action w args p.0 self again outer
              (in_action within area c.level) e;
        },
        handlers_same others w args p.1 self again ss c outer within e,
      )

-- ---- calls

returned_gives : (w : World) (t : SqlType) (o : Outcome) →
    callings.returned_or t (outcome_of o) w ≡ carried (returned_or t o) w
returned_gives w t Next = refl
returned_gives w t (Leaving l) = refl
returned_gives w t (Returning v) = outcome_same w (assigned t v)
returned_gives w t (Exiting l area) = refl
returned_gives w t (Raising area) = refl

end_gives : (w : World) (t : SqlType) (e : doing.End) (p : Outcome) → e.outcome ≡ outcome_of p →
    e.world ≡ w → callings.returned t e ≡ carried (returned_or t p) w
end_gives w t e p h k =
    (λ i. callings.returned_or t (h i) (k i)) ∙ returned_gives w t p

-- a call ends as by the tables alone, where each expression and query of the body gives so
pub call_gives : (types : List SqlType) (returns : SqlType) (s : Stmt) (values args : List Value)
    (w : World) → Each s (ExprGives w args) (QueryGives w args) →
    full.call (Function false types returns false s) values w
    ≡ carried (call (body.Body types returns (stmt_meant s)) values (tables_of w args)) w
call_gives types returns s values args w p =
    let e = stmt_same s w args p worlds.no_self worlds.no_again [] no_context tt
    (worlds.frame_of values) in
    end_gives w returns (full.does s
    (placed worlds.no_self worlds.no_again [] no_context) (worlds.frame_of values) w)
    (does s (tables_of w args) no_context values).outcome e.outcome e.world

-- NULL, or else this
unless : (b : Bool) (go : worlds.Eval Value) (e : Ending Value) (w : World) → go w ≡ carried e w →
    (if b then worlds.give Null else go) w ≡ carried (if b then Ok Null else e) w
unless true go e w h = refl
unless false go e w h = h

-- the same of a function that returns NULL on NULL input
pub known_call_gives : (types : List SqlType) (returns : SqlType) (s : Stmt)
    (values args : List Value) (w : World) → Each s (ExprGives w args) (QueryGives w args) →
    full.call (Function false types returns true s) values w
    ≡ carried (if list_any is_null values then Ok Null
    else call (body.Body types returns (stmt_meant s)) values (tables_of w args)) w
known_call_gives types returns s values args w p =
    let self = callings.null_or true worlds.no_self in
    let e = stmt_same s w args p self worlds.no_again [] no_context tt (worlds.frame_of values) in
    unless (list_any is_null values)
    (λ u. callings.returned returns
    (full.does s (placed self worlds.no_again [] no_context) (worlds.frame_of values) u))
    (call (body.Body types returns (stmt_meant s)) values (tables_of w args)) w
    (end_gives w returns
    (full.does s (placed self worlds.no_again [] no_context) (worlds.frame_of values) w)
    (does s (tables_of w args) no_context values).outcome e.outcome e.world)
