-- Kinds that are others or NULL's, and what words make of them.
use Rattle.std.proofs.Common.{◌≡◌, ◌⊎◌, inl, inr, true, ◌&&◌, List, []}
use Rattle.std.proofs.Common.{◌∷◌, ◌++◌, length, replicate, refl, sym, ap, ◌∙◌, subst}
use Rattle.bind_kinds.specs.declared.kind.Kind.{Kind}
use Rattle.bind_kinds.specs.declared.kind.Kind.TheVariants.{Integer, Text, Boolean, Null}
use Rattle.bind_kinds.specs.Kinds.{fits, joined}
use Rattle.rel_algebra.specs.Kinds.{DataKind, NullKind, IntegerKind, TextKind, BooleanKind, Kinds}
use Rattle.rel_algebra.specs.Kinds.{agree, joined_kind, all_agree, tests_good, case_good, all_good}
use Rattle.rel_algebra.specs.Kinds.{against_good, results_kind, all_kind, join_kinds, agree_all}
use Rattle.typing_trees.specs.Kinds.{all_fit, alike, common, arms, kind_of_arms}
use Rattle.typing_plans.specs.Kinding.{data_kind, Lower, AllLower}
use Rattle.typing_plans.proofs.Parts.{and_true, halves}

-- the first is the second, or Null
abbrev pub Below : Kind → Kind → Type 0
Below j k = (j ≡ k) ⊎ (j ≡ Null)

pub below_then : (i j k : Kind) → Below i j → Below j k → Below i k
below_then i j k (inl p) q = subst (λ x. Below x k) (sym p) q
below_then i j k (inr p) q = inr p

pub first_below : (j k : Kind) → Below j (joined j k)
first_below Integer k = inl refl
first_below Text k = inl refl
first_below Boolean k = inl refl
first_below Null k = inr refl

pub second_below : (j k : Kind) → fits j k ≡ true → Below k (joined j k)
second_below Integer Integer f = inl refl
second_below Integer Text f = absurd cc
second_below Integer Boolean f = absurd cc
second_below Integer Null f = inr refl
second_below Text Integer f = absurd cc
second_below Text Text f = inl refl
second_below Text Boolean f = absurd cc
second_below Text Null f = inr refl
second_below Boolean Integer f = absurd cc
second_below Boolean Text f = absurd cc
second_below Boolean Boolean f = inl refl
second_below Boolean Null f = inr refl
second_below Null k f = inl refl

-- ---- two kinds

agree_self : (d : DataKind) → agree d d ≡ true
agree_self NullKind = refl
agree_self IntegerKind = refl
agree_self TextKind = refl
agree_self BooleanKind = refl

agree_null : (d : DataKind) → agree d NullKind ≡ true
agree_null NullKind = refl
agree_null IntegerKind = refl
agree_null TextKind = refl
agree_null BooleanKind = refl

pub lower_up : (d : DataKind) (j k : Kind) → Lower d j → Below j k → Lower d k
lower_up d j k (inl p) (inl e) = inl (p ∙ ap data_kind e)
lower_up d j k (inl p) (inr e) = inr (p ∙ ap data_kind e)
lower_up d j k (inr p) e = inr p

-- two below one kind
pub agree_both : (d e : DataKind) (k : Kind) → Lower d k → Lower e k → agree d e ≡ true
agree_both d e k (inl p) (inl q) =
    ap (λ x. agree x e) p ∙ ap (agree (data_kind k)) q ∙ agree_self (data_kind k)
agree_both d e k (inl p) (inr q) = ap (agree d) q ∙ agree_null d
agree_both d e k (inr p) q = ap (λ x. agree x e) p

-- two below kinds that fit
pub agree_fit : (d e : DataKind) (j k : Kind) → Lower d j → Lower e k → fits j k ≡ true →
    agree d e ≡ true
agree_fit d e j k p q f = agree_both d e (joined j k)
    (lower_up d j (joined j k) p (first_below j k))
    (lower_up e k (joined j k) q (second_below j k f))

-- with the kind that is wanted
pub agree_to : (d : DataKind) (w k : Kind) → Lower d k → fits w k ≡ true →
    agree d (data_kind w) ≡ true
agree_to d w k p f = agree_both d (data_kind w) (joined w k)
    (lower_up d k (joined w k) p (second_below w k f))
    (lower_up (data_kind w) w (joined w k) (inl refl) (first_below w k))

pub joined_lower : (d e : DataKind) (k : Kind) → Lower d k → Lower e k → Lower (joined_kind d e) k
joined_lower NullKind e k p q = q
joined_lower IntegerKind e k p q = p
joined_lower TextKind e k p q = p
joined_lower BooleanKind e k p q = p

-- ---- several kinds

-- each agrees with one
abbrev pub AllTo : DataKind → Kinds → Type 0
AllTo w [] = Unit {0}
AllTo w (d ∷ ds) = (agree d w ≡ true) × AllTo w ds

pub all_to : (w : Kind) (ds : Kinds) (ks : List Kind) → AllLower ds ks → all_fit w ks ≡ true →
    AllTo (data_kind w) ds
all_to w [] [] l h = tt
all_to w [] (k ∷ ks) l h = absurd l
all_to w (d ∷ ds) [] l h = absurd l
all_to w (d ∷ ds) (k ∷ ks) l h =
    let both = halves (fits w k) (all_fit w ks) h in
    (agree_to d w k l.0 both.0, all_to w ds ks l.1 both.1)

pub tests_to : (ds : Kinds) → AllTo BooleanKind ds → tests_good ds ≡ true
tests_to [] h = refl
tests_to (d ∷ ds) h = and_true (agree d BooleanKind) (tests_good ds) h.0 (tests_to ds h.1)

-- each is below one
abbrev pub EachLower : Kinds → Kind → Type 0
EachLower [] k = Unit {0}
EachLower (d ∷ ds) k = Lower d k × EachLower ds k

pub alike_lower : (j : Kind) (ds : Kinds) (ks : List Kind) → AllLower ds ks → alike j ks ≡ true →
    Below j (common j ks) × EachLower ds (common j ks)
alike_lower j [] [] l h = (inl refl, tt)
alike_lower j [] (k ∷ ks) l h = absurd l
alike_lower j (d ∷ ds) [] l h = absurd l
alike_lower j (d ∷ ds) (k ∷ ks) l h =
    let both = halves (fits j k) (alike (joined j k) ks) h in
    let rest = alike_lower (joined j k) ds ks l.1 both.1 in
    let whole = common (joined j k) ks in (
      below_then j (joined j k) whole (first_below j k) rest.0,
      (
        lower_up d k whole l.0 (below_then k (joined j k) whole (second_below j k both.0) rest.0),
        rest.1,
      ),
    )

pub all_kind_lower : (ds : Kinds) (k : Kind) → EachLower ds k → Lower (all_kind ds) k
all_kind_lower [] k h = inr refl
all_kind_lower (d ∷ ds) k h = joined_lower d (all_kind ds) k h.0 (all_kind_lower ds k h.1)

pub all_good_lower : (ds : Kinds) (k : Kind) → EachLower ds k → all_good ds ≡ true
all_good_lower [] k h = refl
all_good_lower (d ∷ ds) k h = and_true (agree d (all_kind ds)) (all_good ds)
    (agree_both d (all_kind ds) k h.0 (all_kind_lower ds k h.1)) (all_good_lower ds k h.1)

-- the first of IN over a list
pub first_lower : (d : DataKind) (k : Kind) (ds : Kinds) (ks : List Kind) → Lower d k →
    AllLower ds ks → all_fit k ks ≡ true → all_agree d ds ≡ true
first_lower d k [] [] p l h = refl
first_lower d k [] (j ∷ ks) p l h = absurd l
first_lower d k (e ∷ ds) [] p l h = absurd l
first_lower d k (e ∷ ds) (j ∷ ks) p l h =
    let both = halves (fits k j) (all_fit k ks) h in
    and_true (agree d e) (all_agree d ds) (agree_fit d e k j p l.0 both.0)
    (first_lower d k ds ks p l.1 both.1)

-- ---- CASE

pub arms_lower : (w j : Kind) (ds : Kinds) (ks : List Kind) → AllLower ds ks →
    arms w j ks ≡ true →
    Below j (kind_of_arms j ks) × Lower (results_kind ds) (kind_of_arms j ks)
arms_lower w j [] [] l h = (inl refl, inr refl)
arms_lower w j [] (k ∷ ks) l h = absurd l
arms_lower w j (d ∷ []) [] l h = absurd l
arms_lower w j (d ∷ []) (k ∷ []) l h =
    (first_below j k, lower_up d k (joined j k) l.0 (second_below j k h))
arms_lower w j (d ∷ []) (k ∷ m ∷ ks) l h = absurd l.1
arms_lower w j (d ∷ e ∷ ds) [] l h = absurd l
arms_lower w j (d ∷ e ∷ ds) (k ∷ []) l h = absurd l.1
arms_lower w j (d ∷ e ∷ ds) (k ∷ m ∷ ks) l h =
    let both = halves (fits w k && fits j m) (arms w (joined j m) ks) h in
    let fit = halves (fits w k) (fits j m) both.0 in
    let rest = arms_lower w (joined j m) ds ks l.1.1 both.1 in
    let whole = kind_of_arms (joined j m) ks in (
      below_then j (joined j m) whole (first_below j m) rest.0,
      joined_lower e (results_kind ds) whole
          (lower_up e m whole l.1.0
          (below_then m (joined j m) whole (second_below j m fit.1) rest.0))
          rest.1,
    )

-- a result agrees with those after it
result_agrees : (w j m : Kind) (e : DataKind) (ds : Kinds) (ks : List Kind) → Lower e m →
    AllLower ds ks → fits j m ≡ true → arms w (joined j m) ks ≡ true →
    agree e (results_kind ds) ≡ true
result_agrees w j m e ds ks p l f h =
    let rest = arms_lower w (joined j m) ds ks l h in
    let whole = kind_of_arms (joined j m) ks in
    agree_both e (results_kind ds) whole
    (lower_up e m whole p (below_then m (joined j m) whole (second_below j m f) rest.0)) rest.1

pub case_lower : (j : Kind) (ds : Kinds) (ks : List Kind) → AllLower ds ks →
    arms Boolean j ks ≡ true → case_good ds ≡ true
case_lower j [] [] l h = refl
case_lower j [] (k ∷ ks) l h = absurd l
case_lower j (d ∷ []) ks l h = refl
case_lower j (d ∷ e ∷ ds) [] l h = absurd l
case_lower j (d ∷ e ∷ ds) (k ∷ []) l h = absurd l.1
case_lower j (d ∷ e ∷ ds) (k ∷ m ∷ ks) l h =
    let both = halves (fits Boolean k && fits j m) (arms Boolean (joined j m) ks) h in
    let fit = halves (fits Boolean k) (fits j m) both.0 in
    and_true (agree d BooleanKind) (agree e (results_kind ds) && case_good ds)
    (agree_to d Boolean k l.0 fit.0)
    (and_true (agree e (results_kind ds)) (case_good ds)
    (result_agrees Boolean j m e ds ks l.1.0 l.1.1 fit.1 both.1)
    (case_lower (joined j m) ds ks l.1.1 both.1))

pub against_lower : (c : DataKind) (w j : Kind) (ds : Kinds) (ks : List Kind) → Lower c w →
    AllLower ds ks → arms w j ks ≡ true → against_good c ds ≡ true
against_lower c w j [] [] o l h = refl
against_lower c w j [] (k ∷ ks) o l h = absurd l
against_lower c w j (d ∷ []) ks o l h = refl
against_lower c w j (d ∷ e ∷ ds) [] o l h = absurd l
against_lower c w j (d ∷ e ∷ ds) (k ∷ []) o l h = absurd l.1
against_lower c w j (d ∷ e ∷ ds) (k ∷ m ∷ ks) o l h =
    let both = halves (fits w k && fits j m) (arms w (joined j m) ks) h in
    let fit = halves (fits w k) (fits j m) both.0 in
    and_true (agree c d) (agree e (results_kind ds) && against_good c ds)
    (agree_fit c d w k o l.0 fit.0)
    (and_true (agree e (results_kind ds)) (against_good c ds)
    (result_agrees w j m e ds ks l.1.0 l.1.1 fit.1 both.1)
    (against_lower c w (joined j m) ds ks o l.1.1 both.1))

-- ---- rows

pub append_lower : (ds es : Kinds) (js ks : List Kind) → AllLower ds js → AllLower es ks →
    AllLower (ds ++ es) (js ++ ks)
append_lower [] es [] ks l m = m
append_lower [] es (j ∷ js) ks l m = absurd l
append_lower (d ∷ ds) es [] ks l m = absurd l
append_lower (d ∷ ds) es (j ∷ js) ks l m = (l.0, append_lower ds es js ks l.1 m)

-- each at its place, and as many
abbrev pub AllBelow : List Kind → List Kind → Type 0
AllBelow [] [] = Unit {0}
AllBelow [] (k ∷ ks) = ⊥
AllBelow (j ∷ js) [] = ⊥
AllBelow (j ∷ js) (k ∷ ks) = Below j k × AllBelow js ks

pub all_below_self : (ks : List Kind) → AllBelow ks ks
all_below_self [] = tt
all_below_self (k ∷ ks) = (inl refl, all_below_self ks)

pub all_below_then : (is js ks : List Kind) → AllBelow is js → AllBelow js ks → AllBelow is ks
all_below_then [] [] [] p q = tt
all_below_then [] [] (k ∷ ks) p q = absurd q
all_below_then [] (j ∷ js) ks p q = absurd p
all_below_then (i ∷ is) [] ks p q = absurd p
all_below_then (i ∷ is) (j ∷ js) [] p q = absurd q
all_below_then (i ∷ is) (j ∷ js) (k ∷ ks) p q =
    (below_then i j k p.0 q.0, all_below_then is js ks p.1 q.1)

pub all_up : (ds : Kinds) (js ks : List Kind) → AllLower ds js → AllBelow js ks → AllLower ds ks
all_up [] [] [] l b = tt
all_up [] [] (k ∷ ks) l b = absurd b
all_up [] (j ∷ js) ks l b = absurd l
all_up (d ∷ ds) [] ks l b = absurd l
all_up (d ∷ ds) (j ∷ js) [] l b = absurd b
all_up (d ∷ ds) (j ∷ js) (k ∷ ks) l b = (lower_up d j k l.0 b.0, all_up ds js ks l.1 b.1)

pub nulls_lower : (ks : List Kind) → AllLower (replicate (length ks) NullKind) ks
nulls_lower [] = tt
nulls_lower (k ∷ ks) = (inr refl, nulls_lower ks)

pub join_lower : (ds es : Kinds) (ks : List Kind) → AllLower ds ks → AllLower es ks →
    AllLower (join_kinds ds es) ks
join_lower [] [] [] l m = tt
join_lower [] es (k ∷ ks) l m = absurd l
join_lower [] (e ∷ es) [] l m = absurd m
join_lower (d ∷ ds) es [] l m = absurd l
join_lower (d ∷ ds) [] (k ∷ ks) l m = absurd m
join_lower (d ∷ ds) (e ∷ es) (k ∷ ks) l m =
    (joined_lower d e k l.0 m.0, join_lower ds es ks l.1 m.1)

pub agree_all_lower : (ds es : Kinds) (ks : List Kind) → AllLower ds ks → AllLower es ks →
    agree_all ds es ≡ true
agree_all_lower [] es ks l m = refl
agree_all_lower (d ∷ ds) [] ks l m = refl
agree_all_lower (d ∷ ds) (e ∷ es) [] l m = absurd l
agree_all_lower (d ∷ ds) (e ∷ es) (k ∷ ks) l m =
    and_true (agree d e) (agree_all ds es) (agree_both d e k l.0 m.0)
    (agree_all_lower ds es ks l.1 m.1)
