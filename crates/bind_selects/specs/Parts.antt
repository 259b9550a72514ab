-- A SELECT by its parts, as a SELECT INTO has them. ISO/IEC 9075-2, 14.7 (select statement: single
-- row).
use Rattle.std.specs.Prelude.{map}
use Rattle.bind_queries.specs.Judges.{QueryJudge}
use Rattle.bind_queries.specs.Queries.{select_item, judge_parts, maybe}
use Rattle.bind_selects.specs.declared.select_parts.SelectParts.{SelectParts}

-- how a SELECT is judged that stands by its parts, as a SELECT INTO does
abbrev pub parts_judge : SelectParts → QueryJudge
parts_judge p = judge_parts p.anchor (map select_item p.items.now) p.from.now (maybe p.filter.now)
    p.group_by.now (maybe p.having.now)
