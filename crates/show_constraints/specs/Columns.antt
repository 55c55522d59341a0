-- The columns of each table by name, in the order in which they lie in a row (docs/CONSTRAINTS.md, "Columns").
use Rattle.std.specs.Prelude.{ℕ, List, [], ◌∷◌, codes}
use Rattle.air_kit.specs.declared.trace.TableName.{TableName}
use Rattle.air_kit.specs.declared.trace.TableName.TheVariants as table

abbrev pub columns_of : TableName → List (List ℕ)
columns_of table.Main =
    codes "clk" ∷ codes "fmp" ∷ codes "ctx" ∷ codes "sys" ∷ codes "f0" ∷ codes "f1" ∷ codes "f2" ∷ codes "f3" ∷ codes "addr" ∷ codes "b0" ∷
    codes "b1" ∷ codes "b2" ∷ codes "b3" ∷ codes "b4" ∷ codes "b5" ∷ codes "b6" ∷ codes "h0" ∷ codes "h1" ∷ codes "h2" ∷ codes "h3" ∷
    codes "h4" ∷ codes "h5" ∷ codes "h6" ∷ codes "h7" ∷ codes "sp" ∷ codes "gc" ∷ codes "ox" ∷ codes "c0" ∷ codes "c1" ∷ codes "c2" ∷
    codes "s0" ∷ codes "s1" ∷ codes "s2" ∷ codes "s3" ∷ codes "s4" ∷ codes "s5" ∷ codes "s6" ∷ codes "s7" ∷ codes "s8" ∷ codes "s9" ∷
    codes "s10" ∷ codes "s11" ∷ codes "s12" ∷ codes "s13" ∷ codes "s14" ∷ codes "s15" ∷ codes "depth" ∷ codes "key" ∷ codes "inv" ∷
    codes "ha" ∷ codes "lv" ∷ codes "w0" ∷ codes "w1" ∷ codes "w2" ∷ codes "w3" ∷ codes "t0" ∷ codes "t1" ∷ codes "t2" ∷ codes "t3" ∷
    codes "t4" ∷ codes "t5" ∷ codes "t6" ∷ codes "t7" ∷ codes "t8" ∷ codes "t9" ∷ []
columns_of table.Range = codes "count" ∷ codes "v" ∷ []
columns_of table.Hasher =
    codes "mode" ∷ codes "cont" ∷ codes "more" ∷ codes "x0" ∷ codes "x1" ∷ codes "x2" ∷ codes "x3" ∷ codes "x4" ∷ codes "x5" ∷ codes "x6" ∷
    codes "x7" ∷ codes "x8" ∷ codes "x9" ∷ codes "x10" ∷ codes "x11" ∷ []
columns_of table.Bitwise =
    codes "op" ∷ codes "a" ∷ codes "b" ∷ codes "a0" ∷ codes "a1" ∷ codes "a2" ∷ codes "a3" ∷ codes "b0" ∷ codes "b1" ∷ codes "b2" ∷
    codes "b3" ∷ codes "z" ∷ []
columns_of table.Memory =
    codes "kind" ∷ codes "ctx" ∷ codes "addr" ∷ codes "clk" ∷ codes "v0" ∷ codes "v1" ∷ codes "v2" ∷ codes "v3" ∷ codes "n0" ∷ codes "n1" ∷
    codes "d0" ∷ codes "d1" ∷ codes "a0" ∷ codes "a1" ∷ []
columns_of table.Kernel = codes "d0" ∷ codes "d1" ∷ codes "d2" ∷ codes "d3" ∷ codes "count" ∷ []
columns_of table.Left = codes "key" ∷ []
