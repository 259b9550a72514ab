-- Worked rows: the first number of the seed 0, and the whole script with two rows.
use Rattle.std.specs.Prelude.{◌≡◌, ◌++◌, codes, refl}
use Rattle.std.specs.Fmt.{digits}
use Rattle.demo_script.specs.Demo.{a_of, demo_text, drawn, g_of, number, triples}

-- the number after 0
pub first_number : number 0 1 ≡ 1442695040888963407
unfolding number
first_number = refl

-- what is drawn from it
pub first_drawn : drawn (number 0 1) ≡ 167951807
unfolding number
first_drawn = refl

-- the columns of its row
pub first_a : a_of (number 0 1) ≡ 1
unfolding number
first_a = refl

pub first_g : g_of (number 0 1) ≡ 1
unfolding number
first_g = refl

-- the whole script
pub two_rows : demo_text 0 2 ≡
    codes "CREATE TABLE p (k INTEGER PRIMARY KEY, a INTEGER, g INTEGER);\n"
    ++ codes "INSERT INTO p VALUES (1,1,1),(2,4,0);\n"
    ++ codes "CREATE FUNCTION safe (x INTEGER) RETURNS INTEGER BEGIN DECLARE EXIT HANDLER FOR SQLSTATE '22012' RETURN -1; RETURN 100 / x; END;\n"
    ++ codes "CREATE FUNCTION grp (x INTEGER) RETURNS INTEGER RETURN (SELECT SUM(a) FROM p WHERE g = x);\n"
    ++ codes "SELECT COUNT(*), SUM(safe(a)), MAX(grp(g)) FROM p;\n"
    ++ codes "SELECT g, COUNT(*) AS n, SUM(safe(a)) AS s FROM p GROUP BY g ORDER BY g;\n"
unfolding number triples digits
two_rows = refl
