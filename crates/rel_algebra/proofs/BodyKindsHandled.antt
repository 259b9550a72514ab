-- Kinds of what raises and of what handles it: the code to which an area goes, and the actions of
-- the handlers in sight, for which the kinds in sight begin with those of their compound statement.
use Rattle.std.proofs.Common.{◌≡◌, ℕ, zero, suc, ◌+◌, ◌<◌, ◌≤◌, true, false, cond, ◌&&◌, List}
use Rattle.std.proofs.Common.{[], ◌∷◌, ◌++◌, length, take, refl, sym, ap, ◌∙◌, subst}
use Rattle.std.proofs.Common.{arith}
use Rattle.std.proofs.lemmas.List.{append-nil}
use Rattle.sql_values.specs.declared.value.SqlType.{SqlType}
use Rattle.sql_values.specs.declared.value.SqlType.TheVariants.{Integer, Boolean}
use Rattle.rel_algebra.specs.Tree.{AnyOf, ConditionValue, NotFound, SqlException, SqlWarning, State}
use Rattle.rel_algebra.specs.Joins.{places}
use Rattle.rel_algebra.specs.Kinds.{BooleanKind, DataKind, IntegerKind, Kinds, agree, all_agree}
use Rattle.rel_algebra.specs.Kinds.{case_good, kind_at, kinds_at, results_kind}
use Rattle.rel_algebra.specs.Kinds.{scalars_good, scalars_kinds, tests_good, type_kind}
use Rattle.rel_algebra.specs.Plan.{Nodes, no_node, Scalar, Scalars, none, more, word, case_word}
use Rattle.rel_algebra.specs.Plan.{strict}
use Rattle.rel_algebra.proofs.Truths.{and_true}
use Rattle.rel_algebra.proofs.KindNodes.{after_grow, kinds_wider}
use Rattle.rel_algebra.proofs.KindRows.{KindsGrow, first_kinds_columns, kinds_grow_by}
use Rattle.rel_algebra.proofs.KindRows.{kinds_grow_trans}
use Rattle.rel_algebra.specs.Bodies.{HandlerType, Continue, Exit, Undo}
use Rattle.rel_algebra.specs.BodyChain.{Rest, one_raise, one_step, with_column}
use Rattle.rel_algebra.specs.BodyDispatch.{Env, Emit, Coded, Codes, count, is_value, area_in}
use Rattle.rel_algebra.specs.BodyDispatch.{named_tests, general_tests, arm, named_arms}
use Rattle.rel_algebra.specs.BodyDispatch.{general_arms}
use Rattle.rel_algebra.specs.BodyDispatch.{scope_arms, aimed, dispatch, code_or, judging}
use Rattle.rel_algebra.specs.BodyDispatch.{raising_to}
use Rattle.rel_algebra.specs.BodyDispatch.{store_if, action_env, if_continue, scope_actions}
use Rattle.rel_algebra.specs.BodyDispatch.{actions, has_continue, tags, joins, handled}
use Rattle.rel_algebra.specs.Kinds.{type_kinds}
use Rattle.rel_algebra.specs.BodySteps.{Step, grow, Store, store, case_of, only, col, tag}
use Rattle.rel_algebra.proofs.BodyKindsSteps.{Around, Goes, Good, Is, Stands, StepIs, StoreIs}
use Rattle.rel_algebra.proofs.BodyKindsSteps.{StoresAre, after, case_is, code_store, goes_append}
use Rattle.rel_algebra.proofs.BodyKindsSteps.{joined_takes, kind_grows, more_are, one_after}
use Rattle.rel_algebra.proofs.BodyKindsSteps.{one_good}
use Rattle.rel_algebra.proofs.BodyKindsSteps.{placed_kinds, same_agrees, stands_on}
use Rattle.rel_algebra.proofs.BodyKindsSteps.{stores_append, then_goes, word_is}

-- ---- dispatch

-- tests that are truth values
abbrev Tests : Around → Scalars → Kinds → Type 0
Tests A ss q = (scalars_good ss (q ∷ A.outer) A.args ≡ true)
    × (tests_good (scalars_kinds ss (q ∷ A.outer) A.args) ≡ true)

-- arms of a CASE that gives a code
abbrev pub Arms : Around → Scalars → Kinds → Type 0
Arms A ss q = (scalars_good ss (q ∷ A.outer) A.args ≡ true)
    × (case_good (scalars_kinds ss (q ∷ A.outer) A.args) ≡ true)
    × (results_kind (scalars_kinds ss (q ∷ A.outer) A.args) ≡ IntegerKind)

named_good : (A : Around) (vs : List ConditionValue) (t : ℕ) (q : Kinds) →
    Tests A (named_tests vs t) q
named_good A [] t q = (refl, refl)
named_good A (State s ∷ vs) t q = named_good A vs t q
named_good A (SqlException ∷ vs) t q = named_good A vs t q
named_good A (SqlWarning ∷ vs) t q = named_good A vs t q
named_good A (NotFound ∷ vs) t q = named_good A vs t q

general_good : (A : Around) (vs : List ConditionValue) (t : ℕ) (q : Kinds) →
    Tests A (general_tests vs t) q
general_good A [] t q = (refl, refl)
general_good A (State s ∷ vs) t q = general_good A vs t q
general_good A (SqlException ∷ vs) t q = general_good A vs t q
general_good A (SqlWarning ∷ vs) t q = general_good A vs t q
general_good A (NotFound ∷ vs) t q = general_good A vs t q

arm_good : (A : Around) (tests : Scalars) (to : ℕ) (rest : Scalars) (q : Kinds) →
    Tests A tests q → Arms A rest q → Arms A (arm tests to rest) q
arm_good A none to rest q p h = h
arm_good A (more t ts) to rest q p h =
    let ks = q ∷ A.outer in let kk = scalars_kinds rest ks A.args in (
      and_true (scalars_good (more t ts) ks A.args
          && tests_good (scalars_kinds (more t ts) ks A.args))
          (scalars_good rest ks A.args)
          (and_true (scalars_good (more t ts) ks A.args)
          (tests_good (scalars_kinds (more t ts) ks A.args)) p.0 p.1) h.0,
      and_true (agree IntegerKind (results_kind kk)) (case_good kk)
          (ap (agree IntegerKind) h.2) h.1,
      refl,
    )

named_arms_good : (A : Around) (to : HandlerType → ℕ → ℕ) (hs : List Coded) (i t : ℕ)
    (rest : Scalars) (q : Kinds) → Arms A rest q → Arms A (named_arms to hs i t rest) q
named_arms_good A to [] i t rest q h = h
named_arms_good A to (c ∷ hs) i t rest q h =
    arm_good A (named_tests c.takes t) (to c.kind i) (named_arms to hs (suc i) t rest) q
    (named_good A c.takes t q) (named_arms_good A to hs (suc i) t rest q h)

general_arms_good : (A : Around) (to : HandlerType → ℕ → ℕ) (hs : List Coded) (i t : ℕ)
    (rest : Scalars) (q : Kinds) → Arms A rest q → Arms A (general_arms to hs i t rest) q
general_arms_good A to [] i t rest q h = h
general_arms_good A to (c ∷ hs) i t rest q h =
    arm_good A (general_tests c.takes t) (to c.kind i) (general_arms to hs (suc i) t rest) q
    (general_good A c.takes t q) (general_arms_good A to hs (suc i) t rest q h)

pub scope_arms_good : (A : Around) (to : HandlerType → ℕ → ℕ) (hs : List Coded) (i t : ℕ)
    (rest : Scalars) (q : Kinds) → Arms A rest q → Arms A (scope_arms to hs i t rest) q
scope_arms_good A to hs i t rest q h =
    named_arms_good A to hs i t (general_arms to hs i t rest) q
    (general_arms_good A to hs i t rest q h)

dispatch_good : (A : Around) (cs : Codes) (env : Env) (i here t : ℕ) (q : Kinds) →
    Arms A (dispatch cs env i here t) q
dispatch_good A [] env i here t q = (refl, refl, refl)
dispatch_good A (s ∷ outer) env i here t q =
    scope_arms_good A (aimed (env.exits s.level)) s.handlers i t
    (dispatch outer env (i + length s.handlers) here t) q
    (dispatch_good A outer env (i + length s.handlers) here t q)

-- a code
pub arms_code : (A : Around) (ss : Scalars) (q : Kinds) → Arms A ss q →
    Is A (word case_word ss) q IntegerKind
arms_code A ss q h = (
  h.2,
  and_true (scalars_good ss (q ∷ A.outer) A.args)
      (case_good (scalars_kinds ss (q ∷ A.outer) A.args)) h.0 h.1,
)

pub dispatch_code : (A : Around) (cs : Codes) (env : Env) (i here t : ℕ) (q : Kinds) →
    Is A (word case_word (dispatch cs env i here t)) q IntegerKind
dispatch_code A cs env i here t q =
    arms_code A (dispatch cs env i here t) q (dispatch_good A cs env i here t q)

code_or_code : (A : Around) (goes : Scalar) (cs : Codes) (env : Env) (base here t : ℕ)
    (q : Kinds) → Is A goes q IntegerKind → Is A (code_or goes cs env base here t) q IntegerKind
code_or_code A goes cs env base here t q h =
    let ss = dispatch cs env base here t in let d = dispatch_good A cs env base here t q in
    let kk = scalars_kinds ss (q ∷ A.outer) A.args in
    word_is A case_word (more (is_value t) (more goes ss)) q (BooleanKind ∷ IntegerKind ∷ kk)
    (more_are A (is_value t) (more goes ss) q BooleanKind (IntegerKind ∷ kk) (refl, refl)
    (more_are A goes ss q IntegerKind kk h (refl, d.0)))
    (and_true (agree IntegerKind (results_kind kk)) (case_good kk)
    (ap (agree IntegerKind) d.2) d.1)

area_store : (A : Around) (cs : List ℕ) (ts : List SqlType) (q : Kinds) (m t : ℕ) →
    Stands A cs ts q m → StoreIs A (store 2 (area_in t)) q
area_store A cs ts q m t st = record {
  data_type = Boolean;
  kind = BooleanKind;
  old = st.area;
  new = (refl, refl);
  takes = refl;
}

pub judging_are : (A : Around) (goes : Scalar) (codes : Codes) (env : Env) (base here t : ℕ)
    (stores : List Store) (cs : List ℕ) (ts : List SqlType) (q : Kinds) (m : ℕ) →
    Stands A cs ts q m → Is A goes q IntegerKind → StoresAre A stores q →
    StoresAre A (judging goes codes env base here t stores) q
judging_are A goes codes env base here t stores cs ts q m st h s =
    stores_append A stores
    (store 0 (code_or goes codes env base here t) ∷ store 2 (area_in t) ∷ []) q s (
      code_store A cs ts q m (code_or goes codes env base here t) st
          (code_or_code A goes codes env base here t q h),
      (area_store A cs ts q m t st, tt),
    )

pub raising_are : (A : Around) (codes : Codes) (env : Env) (base here t : ℕ) (cs : List ℕ)
    (ts : List SqlType) (q : Kinds) (m : ℕ) → Stands A cs ts q m →
    StoresAre A (raising_to codes env base here t) q
raising_are A codes env base here t cs ts q m st = (
  code_store A cs ts q m (word case_word (dispatch codes env base here t)) st
      (dispatch_code A codes env base here t q),
  (area_store A cs ts q m t st, tt),
)

-- column p is stored in a column that takes its kind
pub if_store : (A : Around) (t p i : ℕ) (q : Kinds) (k : DataKind) (data_type : SqlType) →
    kind_at q p ≡ k → kind_at q i ≡ type_kind data_type → agree k (type_kind data_type) ≡ true →
    StoreIs A (store_if t p i) q
if_store A t p i q k data_type hp hi g =
    let h = case_is A (is_value t) (col p) (col i) q k (type_kind data_type) (refl, refl)
    (hp, refl) (hi, refl) g in
    record {
      data_type = data_type;
      kind = type_kind data_type;
      old = hi;
      new = (h.0 ∙ joined_takes k data_type g, h.1);
      takes = same_agrees data_type;
    }

-- ---- emitters

-- steps keep the kinds of a row wherever they stand, in sight of variables of these types
abbrev pub EmitIs : Around → List SqlType → Emit → Type 0
EmitIs A ts code = (env : Env) (here next n : ℕ) (r : Kinds) → Stands A env.columns ts r n →
    Goes A (code env here next n) r r

-- where column m has the kind k
abbrev pub RestIs : Around → List SqlType → ℕ → DataKind → Rest → Type 0
RestIs A ts m k rest = (env : Env) (from here base free n : ℕ) (r : Kinds) → kind_at r m ≡ k →
    m < length r → Stands A env.columns ts r n → Goes A (rest env from here base free n) r r

-- so do those of actions
abbrev pub HandlersAre : Around → List SqlType → List Coded → Type 0
HandlersAre A ts [] = Unit {0}
HandlersAre A ts (h ∷ hs) = EmitIs A ts h.action × HandlersAre A ts hs

-- the types in sight begin with those of each compound statement around
abbrev pub CodesAre : Around → List SqlType → Codes → Type 0
CodesAre A ts [] = Unit {0}
CodesAre A ts (s ∷ outer) = HandlersAre A (take s.variables ts) s.handlers
    × (s.variables ≤ length ts) × CodesAre A ts outer

take_front : (ts us : List SqlType) (v : ℕ) → v ≤ length ts → take v (ts ++ us) ≡ take v ts
take_front [] us zero h = refl
take_front [] us (suc v) h = absurd (omega arith)
take_front (t ∷ ts) us zero h = refl
take_front (t ∷ ts) us (suc v) h =
    ap (λ (js : List SqlType). t ∷ js) (take_front ts us v (omega arith))

longer : (ts us : List SqlType) → length ts ≤ length (ts ++ us)
longer [] us = omega arith
longer (t ∷ ts) us = let h = longer ts us in omega (arith, h)

pub codes_on : (A : Around) (ts us : List SqlType) (cs : Codes) → CodesAre A ts cs →
    CodesAre A (ts ++ us) cs
codes_on A ts us [] h = tt
codes_on A ts us (s ∷ outer) h = (
  subst (λ (js : List SqlType). HandlersAre A js s.handlers)
      (sym (take_front ts us s.variables h.1)) h.0,
  (let l = longer ts us in let b = h.1 in omega (arith, l, b)),
  codes_on A ts us outer h.2,
)

kinds_at_take : (row : Kinds) (v : ℕ) (is : List ℕ) →
    kinds_at row (take v is) ≡ take v (kinds_at row is)
kinds_at_take row zero is = refl
kinds_at_take row (suc v) [] = refl
kinds_at_take row (suc v) (i ∷ is) =
    ap (λ (js : Kinds). kind_at row i ∷ js) (kinds_at_take row v is)

types_take : (v : ℕ) (ts : List SqlType) → take v (type_kinds ts) ≡ type_kinds (take v ts)
types_take zero ts = refl
types_take (suc v) [] = refl
types_take (suc v) (t ∷ ts) = ap (λ (js : Kinds). type_kind t ∷ js) (types_take v ts)

pub stands_take : (A : Around) (cs : List ℕ) (ts : List SqlType) (r : Kinds) (n v : ℕ) →
    Stands A cs ts r n → Stands A (take v cs) (take v ts) r n
stands_take A cs ts r n v st = record {
  long = st.long;
  code = st.code;
  result = st.result;
  area = st.area;
  columns = kinds_at_take r v cs
      ∙ (ap (λ (js : Kinds). take v js) st.columns ∙ types_take v ts);
}

continue_goes : (A : Around) (kind : HandlerType) (ss : List Step) (r : Kinds) → Goes A ss r r →
    Goes A (if_continue kind ss) r r
continue_goes A Continue ss r h = h
continue_goes A Exit ss r h = refl
continue_goes A Undo ss r h = refl

pub scope_goes : (A : Around) (pick : HandlerType → List Step → List Step) →
    ((kind : HandlerType) (ss : List Step) (r : Kinds) → Goes A ss r r →
    Goes A (pick kind ss) r r) →
    (ts : List SqlType) (hs : List Coded) → HandlersAre A ts hs →
    (env : Env) (i free n : ℕ) (r : Kinds) → Stands A env.columns ts r n →
    Goes A (scope_actions pick hs env i free n) r r
scope_goes A pick p ts [] h env i free n r st = refl
scope_goes A pick p ts (c ∷ hs) h env i free n r st =
    goes_append A (pick c.kind (c.action env i free n))
    (scope_actions pick hs env (suc i) free n) r r r
    (p c.kind (c.action env i free n) r (h.0 env i free n r st))
    (scope_goes A pick p ts hs h.1 env (suc i) free n r st)

actions_go : (A : Around) (ts : List SqlType) (cs : Codes) → CodesAre A ts cs →
    (env : Env) (i free n : ℕ) (r : Kinds) → Stands A env.columns ts r (suc n) →
    Goes A (actions cs env i free n) r r
actions_go A ts [] h env i free n r st = refl
actions_go A ts (s ∷ outer) h env i free n r st =
    goes_append A (scope_actions if_continue s.handlers (action_env env s.level s.variables n) i
    free (suc n)) (actions outer env (i + length s.handlers) free n) r r r
    (scope_goes A if_continue (continue_goes A) (take s.variables ts) s.handlers h.0
    (action_env env s.level s.variables n) i free (suc n) r
    (stands_take A env.columns ts r (suc n) s.variables st))
    (actions_go A ts outer h.2 env (i + length s.handlers) free n r st)

tags_are : (A : Around) (i k : ℕ) (q : Kinds) →
    (scalars_good (tags i k) (q ∷ A.outer) A.args ≡ true)
    × (all_agree IntegerKind (scalars_kinds (tags i k) (q ∷ A.outer) A.args) ≡ true)
tags_are A i zero q = (refl, refl)
tags_are A i (suc k) q = tags_are A (suc i) k q

any_code : (A : Around) (i k : ℕ) (q : Kinds) → kind_at q 0 ≡ IntegerKind →
    Is A (word (strict AnyOf) (more (col 0) (tags i k))) q BooleanKind
any_code A i k q h =
    let all = tags_are A i k q in let kk = scalars_kinds (tags i k) (q ∷ A.outer) A.args in
    word_is A (strict AnyOf) (more (col 0) (tags i k)) q (IntegerKind ∷ kk)
    (more_are A (col 0) (tags i k) q IntegerKind kk (h, refl) (refl, all.0)) all.1

pub joins_step : (A : Around) (i k here m n : ℕ) (cs : List ℕ) (ts : List SqlType)
    (r z : Kinds) → Stands A cs ts r n → KindsGrow r z → length z ≡ m →
    StepIs A (joins i k here m n) z r
joins_step A i k here m n cs ts r z st g l =
    let s = case_of (word (strict AnyOf) (more (col 0) (tags i k))) (tag here) (col 0) in
    let code : kind_at z 0 ≡ IntegerKind = kind_grows r z 0 Integer g st.code in
    let is = case_is A (word (strict AnyOf) (more (col 0) (tags i k))) (tag here) (col 0) z
    IntegerKind IntegerKind (any_code A i k z code) (refl, refl) (code, refl) refl in
    let same = one_after A no_node s z IntegerKind is in
    let Q = after A (with_column no_node s) z in
    let grown : KindsGrow z Q = (IntegerKind ∷ [], sym same) in
    let wide : KindsGrow (z ++ kind_at z 0 ∷ []) Q = (
      [],
      append-nil (z ++ kind_at z 0 ∷ [])
          ∙ (ap (λ (j : DataKind). z ++ j ∷ []) code ∙ sym same),
    ) in (
      one_good A no_node s z IntegerKind refl is,
      placed_kinds (store 0 (tag here) ∷ []) m (places 0 n) r z z Q g l wide
          (first_kinds_columns r Q n st.long (kinds_grow_trans r z Q g grown)),
    )

-- a row with the area as one column more
pub area_stands : (A : Around) (cs : List ℕ) (ts : List SqlType) (r : Kinds) (n : ℕ) →
    Stands A cs ts r n → Stands A cs ts (r ++ kind_at r 2 ∷ []) (suc n)
area_stands A cs ts r n st =
    let z = r ++ kind_at r 2 ∷ [] in
    stands_on A cs ts r z n (suc n) st (kinds_grow_by r (kind_at r 2 ∷ []))
    (kinds_wider r (kind_at r 2 ∷ []) n 1 st.long refl
    ∙ (let s : n + 1 ≡ suc n = omega arith in s))

pub handled_goes : (A : Around) (ts : List SqlType) (cs : Codes) → CodesAre A ts cs →
    (env : Env) (here base free n : ℕ) (r : Kinds) → Stands A env.columns ts r n →
    Goes A (handled cs env here base free n) r r
handled_goes A ts cs h env here base free n r st =
    elim (has_continue cs) as (λ b. Goes A (cond b
    (grow (only (col 2)) ∷ (actions cs env base free n ++ joins base (count cs) here (suc n) n
    ∷ [])) []) r r) [
      | true ↦
          let z = r ++ kind_at r 2 ∷ [] in
          let wide = area_stands A env.columns ts r n st in (
            z,
            (refl, refl),
            goes_append A (actions cs env base free n)
                (joins base (count cs) here (suc n) n ∷ []) z z r
                (actions_go A ts cs h env base free n z wide) (
                  r,
                  joins_step A base (count cs) here (suc n) n env.columns ts r z st
                      (kinds_grow_by r (kind_at r 2 ∷ [])) wide.long,
                  refl,
                ),
          )
      | false ↦ refl
    ]

-- ---- statements of one step

pub one_goes : (A : Around) (ts : List SqlType) (cs : Codes) → CodesAre A ts cs →
    (env : Env) (here next n : ℕ) (r : Kinds) → Stands A env.columns ts r n →
    (pre : Nodes) (p : ℕ) (goes : Scalar) (stores : List Store) → Good A pre r →
    length (after A pre r) ≡ suc p → Is A goes (after A pre r) IntegerKind →
    StoresAre A stores (after A pre r) →
    Goes A (one_step cs env here next n pre p goes stores) r r
one_goes A ts cs h env here next n r st pre p goes stores good l gi s =
    let q = after A pre r in
    let wide = stands_on A env.columns ts r q n (suc p) st
    (after_grow pre A.tables r A.outer A.args) l in
    then_goes A here pre (suc p) (judging goes cs env next here p stores) n
    (handled cs env here next (next + count cs) n) env.columns ts r r st good l
    (judging_are A goes cs env next here p stores env.columns ts q (suc p) wide gi s)
    (handled_goes A ts cs h env here next (next + count cs) n r st)

pub raise_goes : (A : Around) (ts : List SqlType) (cs : Codes) → CodesAre A ts cs →
    (env : Env) (here next n : ℕ) (r : Kinds) → Stands A env.columns ts r n →
    (pre : Nodes) (p : ℕ) → Good A pre r → length (after A pre r) ≡ suc p →
    Goes A (one_raise cs env here next n pre p) r r
raise_goes A ts cs h env here next n r st pre p good l =
    let q = after A pre r in
    let wide = stands_on A env.columns ts r q n (suc p) st
    (after_grow pre A.tables r A.outer A.args) l in
    then_goes A here pre (suc p) (raising_to cs env next here p) n
    (handled cs env here next (next + count cs) n) env.columns ts r r st good l
    (raising_are A cs env next here p env.columns ts q (suc p) wide)
    (handled_goes A ts cs h env here next (next + count cs) n r st)
