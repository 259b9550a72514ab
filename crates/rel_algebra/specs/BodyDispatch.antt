-- Where a raised area goes. The registers of a body are columns: the code, what is returned, the
-- area that is raised, and goes the variables in sight.
use Rattle.std.specs.Prelude.{ℕ, zero, suc, ◌+◌, Bool, true, false, if◌then◌else◌, ◌||◌, List, []}
use Rattle.std.specs.Prelude.{◌∷◌, ◌++◌, length, take, Option, Some}
use Rattle.rel_algebra.specs.Tree.{NullTest, AnyOf, ConditionValue, State, SqlException, SqlWarning}
use Rattle.rel_algebra.specs.Tree.{NotFound}
use Rattle.rel_algebra.specs.Joins.{places}
use Rattle.rel_algebra.specs.Plan.{Scalar, Scalars, word, none, more, case_word, or_word, strict}
use Rattle.rel_algebra.specs.Plan.{on_condition, no_node, extend_by}
use Rattle.rel_algebra.specs.OnConditions.{matches_word, number_word}
use Rattle.rel_algebra.specs.Bodies.{HandlerType, Continue, Exit, Undo}
use Rattle.rel_algebra.specs.BodySteps.{Step, grow, fat, tag, col, only, case_of, Store, store}
use Rattle.rel_algebra.specs.BodySteps.{placed}

-- The columns of the variables in sight, by their slots; the codes to go to by the level of a
-- compound statement that is left by its label, or for its handlers, and for what nothing takes;
-- the column of the area that the action around handles; and how many compound statements are
-- around.
pub record Env : Type 0 where
  -- by their slots
  pub columns : List ℕ
  -- the code of a label, by its level
  pub labels : ℕ → ℕ
  -- the code of the handlers of a level
  pub exits : ℕ → ℕ
  -- where nothing takes an area
  pub out : ℕ
  -- the column of the area that the action around handles
  pub stacked : Option ℕ
  -- how many compound statements are around
  pub level : ℕ

-- Steps that run where the code is the first number, and use as codes of their own only numbers
-- from the second on, on rows of so many columns.
abbrev pub Emit : Type 0
Emit = Env → ℕ → ℕ → ℕ → List Step

-- a handler in sight, with the steps of its action
pub record Coded : Type 0 where
  -- CONTINUE, EXIT or UNDO
  pub kind : HandlerType
  -- states and classes
  pub takes : List ConditionValue
  -- the steps of its action
  pub action : Emit

-- the handlers of a compound statement, its level, and how many variables its actions see
pub record CodedScope : Type 0 where
  -- in the order of their declarations
  pub handlers : List Coded
  -- how many compound statements are around it
  pub level : ℕ
  -- how many variables its actions see
  pub variables : ℕ

-- the compound statements around, the innermost first
abbrev pub Codes : Type 0
Codes = List CodedScope

-- how many handlers are in sight
abbrev pub count : Codes → ℕ
count [] = 0
count (s ∷ outer) = length s.handlers + count outer

-- ---- tests of the cell of a column

-- whether a handler value waits for the area in column t
abbrev pub matching : ConditionValue → ℕ → Scalar
matching v t = word (on_condition (matches_word v)) (only (col t))

-- isnull(number(#t))
abbrev pub is_value : ℕ → Scalar
is_value t = word (strict NullTest) (only (word (on_condition number_word) (only (col t))))

-- the area in a cell as a BOOLEAN, which of a value is harmless
abbrev pub area_in : ℕ → Scalar
area_in t = word (strict NullTest) (only (col t))

-- a test for each state that is named
abbrev pub named_tests : List ConditionValue → ℕ → Scalars
named_tests [] t = none
named_tests (State s ∷ vs) t = more (matching (State s) t) (named_tests vs t)
named_tests (SqlException ∷ vs) t = named_tests vs t
named_tests (SqlWarning ∷ vs) t = named_tests vs t
named_tests (NotFound ∷ vs) t = named_tests vs t

-- a test for each class
abbrev pub general_tests : List ConditionValue → ℕ → Scalars
general_tests [] t = none
general_tests (State s ∷ vs) t = general_tests vs t
general_tests (SqlException ∷ vs) t = more (matching SqlException t) (general_tests vs t)
general_tests (SqlWarning ∷ vs) t = more (matching SqlWarning t) (general_tests vs t)
general_tests (NotFound ∷ vs) t = more (matching NotFound t) (general_tests vs t)

-- to a code where one of these is true
abbrev pub arm : Scalars → ℕ → Scalars → Scalars
arm none to rest = rest
arm (more s ss) to rest = more (word or_word (more s ss)) (more (tag to) rest)

-- the arms of handlers, which are numbered from i on
abbrev pub named_arms : (HandlerType → ℕ → ℕ) → List Coded → ℕ → ℕ → Scalars → Scalars
named_arms to [] i t rest = rest
named_arms to (h ∷ hs) i t rest = arm (named_tests h.takes t) (to h.kind i)
    (named_arms to hs (suc i) t rest)

-- the same of those that wait for its class
abbrev pub general_arms : (HandlerType → ℕ → ℕ) → List Coded → ℕ → ℕ → Scalars → Scalars
general_arms to [] i t rest = rest
general_arms to (h ∷ hs) i t rest = arm (general_tests h.takes t) (to h.kind i)
    (general_arms to hs (suc i) t rest)

-- of one compound statement, those that name a state first
abbrev pub scope_arms : (HandlerType → ℕ → ℕ) → List Coded → ℕ → ℕ → Scalars → Scalars
scope_arms to hs i t rest = named_arms to hs i t (general_arms to hs i t rest)

-- a CONTINUE handler has a code of its own, the others that of their compound statement
abbrev pub aimed : ℕ → HandlerType → ℕ → ℕ
aimed exit Continue i = i
aimed exit Exit i = exit
aimed exit Undo i = exit

-- where the area in column t goes, where no handler takes it to out or on at here
abbrev pub dispatch : Codes → Env → ℕ → ℕ → ℕ → Scalars
dispatch [] env i here t = more (matching SqlException t) (two_tags env.out here)
  where
    two_tags : ℕ → ℕ → Scalars
    two_tags a b = more (tag a) (more (tag b) none)
dispatch (s ∷ outer) env i here t =
    scope_arms (aimed (env.exits s.level)) s.handlers i t
    (dispatch outer env (i + length s.handlers) here t)

-- ---- what stands in column t is a value, or an area that goes its way

-- a code, where column t is a value, and else that to which its area goes
abbrev pub code_or : Scalar → Codes → Env → ℕ → ℕ → ℕ → Scalar
code_or goes codes env base here t = word case_word
    (more (is_value t) (more goes (dispatch codes env base here t)))

-- other stores, the code and the area
abbrev pub judging : Scalar → Codes → Env → ℕ → ℕ → ℕ → List Store → List Store
judging goes codes env base here t stores = stores ++ store 0 (code_or goes codes env base here t)
    ∷ store 2 (area_in t) ∷ []

-- the code and the area, where column t has an area
abbrev pub raising_to : Codes → Env → ℕ → ℕ → ℕ → List Store
raising_to codes env base here t = store 0 (word case_word (dispatch codes env base here t))
    ∷ store 2 (area_in t) ∷ []

-- where column t is a value, a store of column p
abbrev pub store_if : ℕ → ℕ → ℕ → Store
store_if t p i = store i (case_of (is_value t) (col p) (col i))

-- ---- actions

-- an action sees the variables of its compound statement, and the area in column n
abbrev pub action_env : Env → ℕ → ℕ → ℕ → Env
action_env env level variables n = record {
  columns = take variables env.columns;
  labels = env.labels;
  exits = env.exits;
  out = env.out;
  stacked = Some n;
  level = suc level;
}

-- the steps of a CONTINUE handler alone
abbrev pub if_continue : HandlerType → List Step → List Step
if_continue Continue steps = steps
if_continue Exit steps = []
if_continue Undo steps = []

-- the steps of any handler
abbrev pub whatever : HandlerType → List Step → List Step
whatever kind steps = steps

-- the actions of one compound statement, whose codes begin at i, on rows of n columns
abbrev pub scope_actions : (HandlerType → List Step → List Step) → List Coded → Env → ℕ → ℕ → ℕ →
    List Step
scope_actions pick [] env i free n = []
scope_actions pick (h ∷ hs) env i free n = pick h.kind (h.action env i free n) ++ scope_actions pick
    hs env (suc i) free n

-- on rows of n columns, the last one the area
abbrev pub actions : Codes → Env → ℕ → ℕ → ℕ → List Step
actions [] env i free n = []
actions (s ∷ outer) env i free n =
    scope_actions if_continue s.handlers (action_env env s.level s.variables n) i free (suc n)
    ++ actions outer env (i + length s.handlers) free n

-- whether a handler goes on where the condition was raised
abbrev pub is_continue : HandlerType → Bool
is_continue Continue = true
is_continue Exit = false
is_continue Undo = false

-- whether one of these does
abbrev pub any_continue : List Coded → Bool
any_continue [] = false
any_continue (h ∷ hs) = is_continue h.kind || any_continue hs

-- whether one in sight does
abbrev pub has_continue : Codes → Bool
has_continue [] = false
has_continue (s ∷ outer) = any_continue s.handlers || has_continue outer

-- k numbers from i on
abbrev pub tags : ℕ → ℕ → Scalars
tags i zero = none
tags i (suc k) = more (tag i) (tags (suc i) k)

-- on rows of m columns: from any of k codes on at here, with the first n columns
abbrev pub joins : ℕ → ℕ → ℕ → ℕ → ℕ → Step
joins i k here m n = fat (extend_by (only (case_of (word (strict AnyOf) (more (col 0) (tags i k)))
    (tag here) (col 0))) no_node)
    (placed (store 0 (tag here) ∷ []) m (places 0 n))

-- the actions of the CONTINUE handlers in sight, whose codes begin at base, and goes on at here
abbrev pub handled : Codes → Env → ℕ → ℕ → ℕ → ℕ → List Step
handled codes env here base free n =
    if has_continue codes then grow (only (col 2))
    ∷ (actions codes env base free n ++ joins base (count codes) here (suc n) n ∷ []) else []
