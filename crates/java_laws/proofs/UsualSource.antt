-- A usual source from its text on: its tokens, its tree and outline, all its occurrences, and what five searches find:
--   package p;
--   import java.util.*;
--   public class Main {
--     private List items = new ArrayList();
--     public static void main(String[] args) {
--       Main m = new Main();
--       m.items.add("x");
--       System.out.println(m.items.size());
--     }
--   }
mod Source
mod Text
mod Tree
mod Steps
mod Expected
mod InField
mod InMain
mod Whole
mod Scan
mod Found
