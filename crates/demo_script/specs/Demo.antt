-- The demo script: the numbers in its rows, and its bytes.
use Rattle.std.specs.Prelude.{ℕ, zero, suc, ◌+◌, ◌*◌, ◌/◌, ◌%◌, ◌^◌, ◌==◌, List, [], ◌++◌, codes}
use Rattle.std.specs.Prelude.{decimal, if◌then◌else◌}

-- the number after x
abbrev pub next_number : ℕ → ℕ
next_number x = (x * 6364136223846793005 + 1442695040888963407) % 2 ^ 64

-- the number of row i, where that of row 0 is the seed
unfoldable pub number : ℕ → ℕ → ℕ
number seed zero = seed
number seed (suc i) = next_number (number seed i)

-- what is drawn from a number
abbrev pub drawn : ℕ → ℕ
drawn x = x / 2 ^ 33

-- the column a of a row with the number x
abbrev pub a_of : ℕ → ℕ
a_of x = drawn x % 11

-- its column g
abbrev pub g_of : ℕ → ℕ
g_of x = drawn x / 11 % 5

-- row i, with the number x
abbrev pub triple : ℕ → ℕ → List ℕ
triple i x = codes "(" ++ decimal i ++ codes "," ++ decimal (a_of x) ++ codes "," ++
    decimal (g_of x) ++ codes ")"

-- what stands before a row, behind so many others
abbrev pub separator : ℕ → List ℕ
separator before = if before == 0 then [] else codes ","

-- the rows from 1 to n
unfoldable pub triples : ℕ → ℕ → List ℕ
triples seed zero = []
triples seed (suc n) = triples seed n ++ separator n ++ triple (suc n) (number seed (suc n))

-- the line that makes the table
abbrev pub table_line : List ℕ
table_line = codes "CREATE TABLE p (k INTEGER PRIMARY KEY, a INTEGER, g INTEGER);\n"

-- the line that fills it with n rows
abbrev pub insert_line : ℕ → ℕ → List ℕ
insert_line seed n = codes "INSERT INTO p VALUES " ++ triples seed n ++ codes ";\n"

-- the two lines that make its functions, one with a handler and one with a query
abbrev pub function_lines : List ℕ
function_lines = codes "CREATE FUNCTION safe (x INTEGER) RETURNS INTEGER BEGIN DECLARE EXIT HANDLER FOR SQLSTATE '22012' RETURN -1; RETURN 100 / x; END;\n"
    ++ codes "CREATE FUNCTION grp (x INTEGER) RETURNS INTEGER RETURN (SELECT SUM(a) FROM p WHERE g = x);\n"

-- the two lines that ask for sums over all rows, and over those of each group
abbrev pub query_lines : List ℕ
query_lines = codes "SELECT COUNT(*), SUM(safe(a)), MAX(grp(g)) FROM p;\n"
    ++ codes "SELECT g, COUNT(*) AS n, SUM(safe(a)) AS s FROM p GROUP BY g ORDER BY g;\n"

-- the script with n rows, whose numbers begin with the seed
abbrev pub demo_text : ℕ → ℕ → List ℕ
demo_text seed n = table_line ++ insert_line seed n ++ function_lines ++ query_lines
