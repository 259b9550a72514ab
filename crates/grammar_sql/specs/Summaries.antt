-- A summary says what the grammar's laws ask of it.
use Rattle.std.proofs.Common.{◌≡◌, Bool, true, false, not, ◌&&◌, ◌||◌, cond, List, [], ◌++◌, refl}
use Rattle.std.proofs.Common.{ap, sym, ◌∙◌, subst}
use Rattle.std.proofs.lemmas.Bool.{and_parts, and_from}
use Rattle.sql_lex.specs.declared.token.TokenKind.{TokenKind}
use Rattle.grammar_algebra.specs.declared.stage.Stage.{Stage}
use Rattle.grammar_algebra.specs.declared.stage.Stage.TheVariants.{First, Second, Third}
use Rattle.grammar_algebra.specs.Grammar.{Grammar, token, nested, both, either, optional, many}
use Rattle.grammar_algebra.specs.Grammar.{staged, map_to}
use Rattle.grammar_algebra.specs.Reading.{first, goes_on, nullable, decides, is_one_of, apart}
use Rattle.grammar_algebra.proofs.Laws.{same_is}
use Rattle.grammar_sql.specs.Constructs.{stands, ends, told, meet, join, subset, if_so, any, none}
use Rattle.grammar_sql.specs.Summary.{summary, each_decides, each_told, in_round, is_sound}
use Rattle.grammar_sql.specs.Summary.{rule_sound}

module _ {R : Type 0} {Tree : R → Type 0} (shut : R → TokenKind) (b : Bool) where
  -- The summary says whether nothing is a spelling.
  pub nullable_same : {A : Type 0} (g : Grammar R Tree A) → (summary shut b g).nullable ≡ nullable g
  nullable_same (token kind) = refl
  nullable_same (nested o r c) = refl
  nullable_same (both g h) = ap (λ z. z && (summary shut b h).nullable) (nullable_same g) ∙
      ap (λ z. nullable g && z) (nullable_same h)
  nullable_same (either g h) = ap (λ z. z || (summary shut b h).nullable) (nullable_same g) ∙
      ap (λ z. nullable g || z) (nullable_same h)
  nullable_same (optional g) = refl
  nullable_same (many g) = refl
  nullable_same (staged item next stage) = refl
  nullable_same (map_to f g) = nullable_same g

  -- The summary has the kinds with which a spelling begins.
  pub begins_same : {A : Type 0} (g : Grammar R Tree A) → (summary shut b g).begins ≡ first g
  begins_same (token kind) = refl
  begins_same (nested o r c) = refl
  begins_same (both g h) = ap (λ z. z ++ cond (summary shut b g).nullable (summary shut b h).begins
      []) (begins_same g)
      ∙ ap (λ z. first g ++ cond z (summary shut b h).begins []) (nullable_same g) ∙
      ap (λ z. first g ++ cond (nullable g) z []) (begins_same h)
  begins_same (either g h) = ap (λ z. z ++ (summary shut b h).begins) (begins_same g) ∙
      ap (λ z. first g ++ z) (begins_same h)
  begins_same (optional g) = begins_same g
  begins_same (many g) = begins_same g
  begins_same (staged item next stage) =
      let s1 = summary shut b (item First) in let s2 = summary shut b (item Second) in
      let s3 = summary shut b (item Third) in
      ap (λ z. z ++ cond (summary shut b (item stage)).nullable
      (s1.begins ++ (s2.begins ++ s3.begins)) []) (begins_same (item stage))
      ∙ ap (λ z. first (item stage) ++ cond z (s1.begins ++ (s2.begins ++ s3.begins)) [])
      (nullable_same (item stage))
      ∙ ap (λ z. first (item stage) ++ cond (nullable (item stage)) (z ++ (s2.begins ++ s3.begins))
      []) (begins_same (item First))
      ∙ ap (λ z. first (item stage) ++ cond (nullable (item stage))
      (first (item First) ++ (z ++ s3.begins)) []) (begins_same (item Second))
      ∙ ap (λ z. first (item stage) ++ cond (nullable (item stage))
      (first (item First) ++ (first (item Second) ++ z)) []) (begins_same (item Third))
  begins_same (map_to f g) = begins_same g

  -- So have the summaries of three stages, one after another.
  pub all_begin : {A : Type 0} (item : Stage → Grammar R Tree A)
      → ((summary shut b (item First)).begins ++
      ((summary shut b (item Second)).begins ++ (summary shut b (item Third)).begins)) ≡
      (first (item First) ++ (first (item Second) ++ first (item Third)))
  all_begin item =
      let s2 = summary shut b (item Second) in let s3 = summary shut b (item Third) in
      ap (λ z. z ++ (s2.begins ++ s3.begins)) (begins_same (item First)) ∙
      ap (λ z. first (item First) ++ (z ++ s3.begins)) (begins_same (item Second))
      ∙ ap (λ z. first (item First) ++ (first (item Second) ++ z)) (begins_same (item Third))

  -- The summary has the kinds with which a whole spelling goes on.
  pub goes_on_same : {A : Type 0} (g : Grammar R Tree A) → (summary shut b g).goes_on ≡ goes_on g
  goes_on_same (token kind) = refl
  goes_on_same (nested o r c) = refl
  goes_on_same (both g h) = ap (λ z. z ++ cond (summary shut b h).nullable
      (summary shut b g).goes_on []) (goes_on_same h)
      ∙ ap (λ z. goes_on h ++ cond z (summary shut b g).goes_on []) (nullable_same h) ∙
      ap (λ z. goes_on h ++ cond (nullable h) z []) (goes_on_same g)
  goes_on_same (either g h) = ap (λ z. z ++ (summary shut b h).goes_on) (goes_on_same g) ∙
      ap (λ z. goes_on g ++ z) (goes_on_same h)
  goes_on_same (optional g) = ap (λ z. z ++ (summary shut b g).goes_on) (begins_same g) ∙
      ap (λ z. first g ++ z) (goes_on_same g)
  goes_on_same (many g) = ap (λ z. z ++ (summary shut b g).goes_on) (begins_same g) ∙
      ap (λ z. first g ++ z) (goes_on_same g)
  goes_on_same (staged item next stage) =
      let s1 = summary shut b (item First) in let s2 = summary shut b (item Second) in
      let s3 = summary shut b (item Third) in
      let all = first (item First) ++ (first (item Second) ++ first (item Third)) in
      ap (λ z. z ++ (s1.goes_on ++ (s2.goes_on ++ s3.goes_on))) (all_begin item)
      ∙ ap (λ z. all ++ (z ++ (s2.goes_on ++ s3.goes_on))) (goes_on_same (item First))
      ∙ ap (λ z. all ++ (goes_on (item First) ++ (z ++ s3.goes_on))) (goes_on_same (item Second))
      ∙ ap (λ z. all ++ (goes_on (item First) ++ (goes_on (item Second) ++ z)))
      (goes_on_same (item Third))
  goes_on_same (map_to f g) = goes_on_same g

  -- The summary says after what the first tokens are told.
  pub stands_same : {A : Type 0} (g : Grammar R Tree A) → (summary shut b g).stands ≡ stands b g
  stands_same (token kind) = refl
  stands_same (nested o r c) = refl
  stands_same (both g h) =
      ap (λ z. meet z (if_so (summary shut b g).nullable (summary shut b h).stands any))
      (stands_same g)
      ∙ ap (λ z. meet (stands b g) (if_so z (summary shut b h).stands any)) (nullable_same g) ∙
      ap (λ z. meet (stands b g) (if_so (nullable g) z any)) (stands_same h)
  stands_same (either g h) = ap (λ z. meet z (summary shut b h).stands) (stands_same g) ∙
      ap (λ z. meet (stands b g) z) (stands_same h)
  stands_same (optional g) = stands_same g
  stands_same (many g) = stands_same g
  stands_same (staged item next stage) =
      ap (λ z. meet z (meet (summary shut b (item Second)).stands
      (summary shut b (item Third)).stands)) (stands_same (item First))
      ∙ ap (λ z. meet (stands b (item First)) (meet z (summary shut b (item Third)).stands))
      (stands_same (item Second))
      ∙ ap (λ z. meet (stands b (item First)) (meet (stands b (item Second)) z))
      (stands_same (item Third))
  stands_same (map_to f g) = stands_same g

  -- The summary says what the last tokens are for a token after them.
  pub ends_same : {A : Type 0} (g : Grammar R Tree A) → (summary shut b g).ends ≡ ends g
  ends_same (token kind) = refl
  ends_same (nested o r c) = refl
  ends_same (both g h) =
      ap (λ z. join z (if_so (summary shut b h).nullable (summary shut b g).ends none))
      (ends_same h)
      ∙ ap (λ z. join (ends h) (if_so z (summary shut b g).ends none)) (nullable_same h) ∙
      ap (λ z. join (ends h) (if_so (nullable h) z none)) (ends_same g)
  ends_same (either g h) = ap (λ z. join z (summary shut b h).ends) (ends_same g) ∙
      ap (λ z. join (ends g) z) (ends_same h)
  ends_same (optional g) = ends_same g
  ends_same (many g) = ends_same g
  ends_same (staged item next stage) =
      ap (λ z. join z (join (summary shut b (item Second)).ends (summary shut b (item Third)).ends))
      (ends_same (item First))
      ∙ ap (λ z. join (ends (item First)) (join z (summary shut b (item Third)).ends))
      (ends_same (item Second))
      ∙ ap (λ z. join (ends (item First)) (join (ends (item Second)) z)) (ends_same (item Third))
  ends_same (map_to f g) = ends_same g

  -- ends within what stands
  fits_same : {A B : Type 0} (g : Grammar R Tree A) (h : Grammar R Tree B) →
      subset (summary shut b g).ends (summary shut b h).stands ≡ subset (ends g) (stands b h)
  fits_same g h = ap (λ z. subset z (summary shut b h).stands) (ends_same g) ∙
      ap (λ z. subset (ends g) z) (stands_same h)

  -- The constructs of one stage are told, also where any stage's item comes next.
  abbrev stage_told : {A : Type 0} → (Stage → Grammar R Tree A) → Stage → Bool
  stage_told item u = told (in_round shut) b (item u) &&
      (subset (ends (item u)) (stands b (item First)) &&
      (subset (ends (item u)) (stands b (item Second)) && subset (ends (item u))
      (stands b (item Third))))

  -- The summaries of the three stages say that of one of them.
  each_same : {A : Type 0} (item : Stage → Grammar R Tree A) (u : Stage) →
      (summary shut b (item u)).told ≡ told (in_round shut) b (item u)
      → each_told (summary shut b (item First)) (summary shut b (item Second))
      (summary shut b (item Third)) (summary shut b (item u)) ≡ stage_told item u
  each_same item u e =
      let s = summary shut b (item u) in let s1 = summary shut b (item First) in
      let s2 = summary shut b (item Second) in let s3 = summary shut b (item Third) in
      ap (λ z. z && (subset s.ends s1.stands &&
      (subset s.ends s2.stands && subset s.ends s3.stands))) e
      ∙ ap (λ z. told (in_round shut) b (item u) &&
      (z && (subset s.ends s2.stands && subset s.ends s3.stands)))
      (fits_same (item u) (item First))
      ∙ ap (λ z. told (in_round shut) b (item u) &&
      (subset (ends (item u)) (stands b (item First)) && (z && subset s.ends s3.stands)))
      (fits_same (item u) (item Second))
      ∙ ap (λ z. told (in_round shut) b (item u) &&
      (subset (ends (item u)) (stands b (item First)) &&
      (subset (ends (item u)) (stands b (item Second)) && z))) (fits_same (item u) (item Third))

  -- The summary says whether the tokens tell the constructs.
  pub told_same : {A : Type 0} (g : Grammar R Tree A) →
      (summary shut b g).told ≡ told (in_round shut) b g
  told_same (token kind) = refl
  told_same (nested o r c) = refl
  told_same (both g h) =
      let s = summary shut b g in let t = summary shut b h in
      ap (λ z. z && (t.told && subset s.ends t.stands)) (told_same g) ∙
      ap (λ z. told (in_round shut) b g && (z && subset s.ends t.stands)) (told_same h)
      ∙ ap (λ z. told (in_round shut) b g && (told (in_round shut) b h && z)) (fits_same g h)
  told_same (either g h) = ap (λ z. z && (summary shut b h).told) (told_same g) ∙
      ap (λ z. told (in_round shut) b g && z) (told_same h)
  told_same (optional g) = told_same g
  told_same (many g) = ap (λ z. z && subset (summary shut b g).ends (summary shut b g).stands)
      (told_same g) ∙ ap (λ z. told (in_round shut) b g && z) (fits_same g g)
  told_same (staged item next stage) =
      let s1 = summary shut b (item First) in let s2 = summary shut b (item Second) in
      let s3 = summary shut b (item Third) in
      ap (λ z. z && (each_told s1 s2 s3 s2 && each_told s1 s2 s3 s3))
      (each_same item First (told_same (item First)))
      ∙ ap (λ z. stage_told item First && (z && each_told s1 s2 s3 s3))
      (each_same item Second (told_same (item Second)))
      ∙ ap (λ z. stage_told item First && (stage_told item Second && z))
      (each_same item Third (told_same (item Third)))
  told_same (map_to f g) = told_same g

-- ---- one token ahead decides

module _ {R : Type 0} {Tree : R → Type 0} (shut : R → TokenKind)
    (rules : (r : R) → Grammar R Tree (Tree r)) (b : Bool)
    (closed : (r : R) → not (is_one_of (shut r) (goes_on (rules r))) ≡ true) where
  -- Kinds that are apart by the summaries are apart.
  apart_same : {A B : Type 0} (g : Grammar R Tree A) (h : Grammar R Tree B) →
      apart (summary shut b h).begins (summary shut b g).goes_on ≡ true →
      apart (first h) (goes_on g) ≡ true
  apart_same g h e = sym (ap (λ z. apart z (summary shut b g).goes_on) (begins_same shut b h) ∙
      ap (λ z. apart (first h) z) (goes_on_same shut b g)) ∙ e

  -- What is not nullable by its summary spells a token at least.
  solid : {A : Type 0} (g : Grammar R Tree A) → not (summary shut b g).nullable ≡ true →
      not (nullable g) ≡ true
  solid g e = sym (ap not (nullable_same shut b g)) ∙ e

  -- a stage of a repetition
  abbrev all_first : {A : Type 0} → (Stage → Grammar R Tree A) → List TokenKind
  all_first item = first (item First) ++ (first (item Second) ++ first (item Third))

  -- One token ahead decides an item of one stage, and whether another item comes after it.
  abbrev one_decides : {A : Type 0} → (Stage → Grammar R Tree A) → Stage → Bool
  one_decides item s = decides rules (item s) &&
      (not (nullable (item s)) && apart (all_first item) (goes_on (item s)))

  -- The summaries of the three stages say that of one of them.
  one : {A : Type 0} (item : Stage → Grammar R Tree A) (s : Stage) →
      ((summary shut b (item s)).decides ≡ true → decides rules (item s) ≡ true)
      → each_decides ((summary shut b (item First)).begins ++
      ((summary shut b (item Second)).begins ++ (summary shut b (item Third)).begins))
      (summary shut b (item s)) ≡ true
      → one_decides item s ≡ true
  one item s h e =
      let t = summary shut b (item s) in
      let all = (summary shut b (item First)).begins ++
      ((summary shut b (item Second)).begins ++ (summary shut b (item Third)).begins) in
      let p = and_parts t.decides (not t.nullable && apart all t.goes_on) e in
      let q = and_parts (not t.nullable) (apart all t.goes_on) p.1 in
      and_from (decides rules (item s)) (not (nullable (item s)) && apart (all_first item)
      (goes_on (item s))) (h p.0)
      (and_from (not (nullable (item s))) (apart (all_first item) (goes_on (item s)))
      (solid (item s) q.0)
      (sym (ap (λ z. apart z t.goes_on) (all_begin shut b item) ∙
      ap (λ z. apart (all_first item) z) (goes_on_same shut b (item s))) ∙ q.1))

  -- Where the summary says that one token ahead decides, it does.
  pub decided : {A : Type 0} (g : Grammar R Tree A) → (summary shut b g).decides ≡ true →
      decides rules g ≡ true
  decided (token kind) e = refl
  decided (nested o r c) e = subst (λ z. not (is_one_of z (goes_on (rules r))) ≡ true)
      (sym (same_is c (shut r) e)) (closed r)
  decided (both g h) e =
      let p = and_parts (summary shut b g).decides
      ((summary shut b h).decides && apart (summary shut b h).begins
      (summary shut b g).goes_on) e in
      let q = and_parts (summary shut b h).decides
      (apart (summary shut b h).begins (summary shut b g).goes_on) p.1 in
      and_from (decides rules g) (decides rules h && apart (first h) (goes_on g)) (decided g p.0)
      (and_from (decides rules h) (apart (first h) (goes_on g)) (decided h q.0)
      (apart_same g h q.1))
  decided (either g h) e =
      let s = summary shut b g in let t = summary shut b h in
      let p = and_parts s.decides (t.decides &&
      (apart t.begins s.begins && (not s.nullable && not t.nullable))) e in
      let q = and_parts t.decides (apart t.begins s.begins && (not s.nullable && not t.nullable))
      p.1 in
      let u = and_parts (apart t.begins s.begins) (not s.nullable && not t.nullable) q.1 in
      let v = and_parts (not s.nullable) (not t.nullable) u.1 in
      and_from (decides rules g) (decides rules h &&
      (apart (first h) (first g) && (not (nullable g) && not (nullable h)))) (decided g p.0)
      (and_from (decides rules h) (apart (first h) (first g) &&
      (not (nullable g) && not (nullable h))) (decided h q.0)
      (and_from (apart (first h) (first g)) (not (nullable g) && not (nullable h))
      (sym (ap (λ z. apart z s.begins) (begins_same shut b h) ∙
      ap (λ z. apart (first h) z) (begins_same shut b g)) ∙ u.0)
      (and_from (not (nullable g)) (not (nullable h)) (solid g v.0) (solid h v.1))))
  decided (optional g) e =
      let p = and_parts (summary shut b g).decides (not (summary shut b g).nullable) e in
      and_from (decides rules g) (not (nullable g)) (decided g p.0) (solid g p.1)
  decided (many g) e =
      let p = and_parts (summary shut b g).decides
      (not (summary shut b g).nullable && apart (summary shut b g).begins
      (summary shut b g).goes_on) e in
      let q = and_parts (not (summary shut b g).nullable)
      (apart (summary shut b g).begins (summary shut b g).goes_on) p.1 in
      and_from (decides rules g) (not (nullable g) && apart (first g) (goes_on g)) (decided g p.0)
      (and_from (not (nullable g)) (apart (first g) (goes_on g)) (solid g q.0) (apart_same g g q.1))
  decided (staged item next stage) e =
      let s1 = summary shut b (item First) in let s2 = summary shut b (item Second) in
      let s3 = summary shut b (item Third) in
      let all = s1.begins ++ (s2.begins ++ s3.begins) in
      let p = and_parts (each_decides all s1) (each_decides all s2 && each_decides all s3) e in
      let q = and_parts (each_decides all s2) (each_decides all s3) p.1 in
      and_from (one_decides item First) (one_decides item Second && one_decides item Third)
      (one item First (decided (item First)) p.0)
      (and_from (one_decides item Second) (one_decides item Third)
      (one item Second (decided (item Second)) q.0) (one item Third (decided (item Third)) q.1))
  decided (map_to f g) e = decided g e

-- ---- of sound rules

module _ {R : Type 0} {Tree : R → Type 0} (shut : R → TokenKind) (rules : (r : R) →
    Grammar R Tree (Tree r)) (sound : (r : R) → rule_sound shut rules r ≡ true) where
  -- what it is that a rule is sound, in its four parts
  parts : (r : R) → let s = summary shut (in_round shut r) (rules r) in (s.decides ≡ true) ×
      (s.told ≡ true) × (s.stands.at_other ≡ true) × (not (is_one_of (shut r) s.goes_on) ≡ true)
  parts r =
      let s = summary shut (in_round shut r) (rules r) in
      let p = and_parts s.decides
      (s.told && (s.stands.at_other && not (is_one_of (shut r) s.goes_on))) (sound r) in
      let q = and_parts s.told (s.stands.at_other && not (is_one_of (shut r) s.goes_on)) p.1 in
      let u = and_parts s.stands.at_other (not (is_one_of (shut r) s.goes_on)) q.1 in
      (p.0, q.0, u.0, u.1)

  -- The token that closes a construct goes on with nothing of what the construct holds.
  closes_none : (r : R) → not (is_one_of (shut r) (goes_on (rules r))) ≡ true
  closes_none r = sym (ap (λ z. not (is_one_of (shut r) z))
      (goes_on_same shut (in_round shut r) (rules r))) ∙ (parts r).3

  -- One token ahead decides each rule.
  pub all_decide : (r : R) → decides rules (rules r) ≡ true
  all_decide r = decided shut rules (in_round shut r) closes_none (rules r) (parts r).0

  -- One token ahead decides each sound part.
  pub part_decides : {A : Type 0} (g : Grammar R Tree A) → is_sound shut false g ≡ true →
      decides rules g ≡ true
  part_decides g e = decided shut rules false closes_none g
      (and_parts (summary shut false g).decides (summary shut false g).told e).0

  -- The tokens tell the constructs in what each rule spells.
  pub all_told : (r : R) → told (in_round shut) (in_round shut r) (rules r) ≡ true
  all_told r = sym (told_same shut (in_round shut r) (rules r)) ∙ (parts r).1

  -- They tell them also for its first tokens, since these stand right after an opening token.
  pub all_stand : (r : R) → (stands (in_round shut r) (rules r)).at_other ≡ true
  all_stand r = sym (ap (λ z. z.at_other) (stands_same shut (in_round shut r) (rules r))) ∙
      (parts r).2

  -- The tokens tell the constructs of each sound part.
  pub part_told : {A : Type 0} (g : Grammar R Tree A) → is_sound shut false g ≡ true →
      told (in_round shut) false g ≡ true
  part_told g e = sym (told_same shut false g) ∙
      (and_parts (summary shut false g).decides (summary shut false g).told e).1
